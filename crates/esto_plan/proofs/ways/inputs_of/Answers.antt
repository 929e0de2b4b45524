use Rattle.std.proofs.Common.{◌∙◌, ◌∷◌, ◌++◌, [], ap, sym, cond, false, get_or}
use Rattle.std.proofs.lemmas.Option.{slice_get-get_or}
use Rattle.esto_plan.proofs.PlanLemmas.{inputs_more}
use Rattle.esto_plan.proofs.ways.inputs_of.Goals as goal

pub columns-preserved : goal.columns-preserved
columns-preserved c =
    let items = c.items-is_input-items.result.now in
    let is_input = get_or items c.columns.column false in
    c.in_ok-push_input.ensures ∙ ap (λ them. them ++ cond is_input (c.columns.column ∷ []) []) c.columns.invariant
    ∙ sym (inputs_more items c.columns.column is_input (slice_get-get_or items c.columns.column false c.columns-test.true))
