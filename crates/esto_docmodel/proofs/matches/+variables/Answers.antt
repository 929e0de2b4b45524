use Rattle.esto_docmodel.proofs.VariableLemmas.{variables_turn, variables_end, variables_value, variables_group, on_ok_then}
use Rattle.std.proofs.Common.{ℕ, List, subst}
use Rattle.esto_term.specs.declared.term.Term.TheVariants.{Plain}
use Rattle.esto_query.specs.Rows.{Adds}
use Rattle.esto_docmodel.specs.Patterns.{Mentions}
use Rattle.esto_docmodel.specs.Shapes.{entries_of}
use Rattle.esto_docmodel.specs.declared.pattern.Entry.{Entry}
use Rattle.esto_docmodel.proofs.matches.+variables.Goals as goal

pub put_variables-entries-preserved : goal.put_variables-entries-preserved
put_variables-entries-preserved t c =
    variables_turn _ _ _ c.args.entries.now c.entries.entry-index _ c.entries-test.true c.entry-item.is c.in_ok-put_variables_of.ensures c.entries.invariant

pub put_variables-returns : goal.put_variables-returns
put_variables-returns t c = variables_end _ _ c.args.entries.now c.entries.entry-index c.entries-test.false c.entries.invariant

pub put_variables_of-returns-in-Value : goal.put_variables_of-returns-in-Value
put_variables_of-returns-in-Value t c =
    on_ok_then c.put_variable.result (variables_value _ _ c.args.entry.now c.in-Value.field-0 c.in-Value.term c.in-Value.is) c.put_variable.ensures

pub put_variables_of-returns-in-Group : goal.put_variables_of-returns-in-Group
put_variables_of-returns-in-Group t c =
    on_ok_then c.put_variables.result
    (λ added. variables_group _ _ c.args.entry.now c.in-Group.field-0 c.in-Group.inner c.in-Group.is
    (subst (λ (it : List Entry). Adds c.args.variables.now.items c.put_variables.new.variables.items (λ (v : ℕ). Mentions (entries_of it) (Plain v)))
    c.items.ensures added))
    c.put_variables.ensures
