use Rattle.std.proofs.Common.{◌++◌, ◌∷◌, [], map, take, refl, ap, ◌∙◌}
use Rattle.std.proofs.lemmas.List.{append_assoc}
use Rattle.esto_semantics.proofs.SubstitutionLemmas.{map_more}
use Rattle.esto_universal.specs.Rows.{over}
use Rattle.esto_universal.proofs.rows.push_rows.Goals as goal

pub rows-preserved : goal.rows-preserved
rows-preserved c =
    let so_far = map (over c.args.number) (take c.rows.row-index c.args.rows.now) in
    let one = over c.args.number c.row-item.result in
    c.in_ok-push.ensures.ok
    ∙ ap (λ it. c.rows.facts ++ record { relation = c.args.number; terms = it } ∷ []) c.in_ok-terms.ensures
    ∙ ap (λ it. it ++ one ∷ []) c.rows.invariant
    ∙ append_assoc c.args.facts.now so_far (one ∷ [])
    ∙ ap (λ it. c.args.facts.now ++ it)
    (map_more (over c.args.number) c.args.rows.now c.rows.row-index c.row-item.result so_far (so_far ++ one ∷ [])
    (rw c.items-row-items.ensures at c.rows-test.true) (rw c.items-row-items.ensures at c.row-item.is) refl refl)
