use Rattle.std.proofs.lemmas.Result.{on_ok_weaker}
use Rattle.esto_docmodel.proofs.VariableLemmas.{variable_put}
use Rattle.esto_docmodel.proofs.matches.put_variable.Goals as goal

pub returns : goal.returns
returns c =
    on_ok_weaker c.push.result (variable_put c.args.variables.now.items c.push.new.items.items c.args.term.now c.in-Plain.variable c.in-Plain.is) c.push.ensures
