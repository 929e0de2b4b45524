use Rattle.std.proofs.Common.{[], ◌∷◌, ◌++◌, get_or, map, sym, ap, ◌∙◌}
use Rattle.std.proofs.lemmas.List.{map_more, take_all}
use Rattle.esto_columns.specs.declared.fragment.Input.{Input}
use Rattle.esto_columns.proofs.stored.codes_of.Goals as goal

pub inputs-preserved : goal.inputs-preserved
inputs-preserved c =
    c.in_ok-push.ensures.ok
    ∙ ap (λ them. them ++ (get_or c.args.inputs.now c.inputs.input-index (record { column = 0; code = 0 })).code ∷ []) c.inputs.invariant
    ∙ sym (map_more (λ (input : Input). input.code) c.args.inputs.now c.inputs.input-index (record { column = 0; code = 0 }) c.inputs-test.true)

pub returns : goal.returns
returns c = c.inputs.invariant
    ∙ ap (map (λ (input : Input). input.code)) (take_all c.inputs.input-index c.args.inputs.now c.inputs-test.false)
