use Rattle.std.proofs.Common.{[], ◌∷◌, ◌++◌, get_or, map, sym, ap, ◌∙◌}
use Rattle.std.proofs.lemmas.List.{map_more, take_all}
use Rattle.esto_columns.proofs.column.narrow_at.Goals as goal

pub places-preserved : goal.places-preserved
places-preserved c =
    let codes = c.args.codes.now in
    c.in_ok-push.ensures.ok
    ∙ (λ i. c.places.invariant i ++ c.narrow_code.ensures i ∷ [])
    ∙ sym (map_more (λ place. get_or codes place 0) c.args.places.now c.places.place-index 0 c.places-test.true)

pub returns : goal.returns
returns c = c.places.invariant
    ∙ ap (map (λ place. get_or c.args.codes.now place 0)) (take_all c.places.place-index c.args.places.now c.places-test.false)
