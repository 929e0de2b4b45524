use Rattle.std.proofs.Common.{[], ◌∷◌, ◌++◌, get_or, map, take, sym, ap, ◌∙◌}
use Rattle.std.proofs.lemmas.List.{map_more, take_all, append-nil, append_assoc}
use Rattle.esto_columns.proofs.column.push_at.Goals as goal

pub places-init : goal.places-init
places-init c = sym (append-nil c.args.into.now)

pub places-preserved : goal.places-preserved
places-preserved c =
    let codes = c.args.column.now in
    let place = get_or c.args.places.now c.places.place-index 0 in
    let before = map (λ at. get_or codes at 0) (take c.places.place-index c.args.places.now) in
    c.in_ok-push.ensures.ok
    ∙ (λ i. c.places.invariant i ++ c.code_at.ensures i ∷ [])
    ∙ append_assoc c.args.into.now before (get_or codes place 0 ∷ [])
    ∙ ap (λ them. c.args.into.now ++ them) (sym (map_more (λ at. get_or codes at 0) c.args.places.now c.places.place-index 0 c.places-test.true))

pub returns : goal.returns
returns c = c.places.invariant
    ∙ ap (λ them. c.args.into.now ++ map (λ place. get_or c.args.column.now place 0) them)
    (take_all c.places.place-index c.args.places.now c.places-test.false)
