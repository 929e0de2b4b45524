use Rattle.esto_docmodel.proofs.VariableLemmas.{variables_all}
use Rattle.esto_docmodel.proofs.matches.variables_of.Goals as goal

pub returns-clause-variables : goal.returns-clause-variables
returns-clause-variables c =
    variables_all c.new-variables.result.items c.put_variables.new.variables.items c.sort_unique.new.numbers.items c.items.result.now c.args.pattern.now.entries
    c.new-variables.ensures.items c.items.ensures c.in_ok-put_variables.ensures c.in_ok-sort_unique.ensures.same
