use Rattle.std.proofs.Common.{◌++◌, ◌∷◌, [], map, ap, ◌∙◌}
use Rattle.std.proofs.lemmas.List.{take_all}
use Rattle.esto_semantics.proofs.SubstitutionLemmas.{map_more}
use Rattle.esto_views.specs.Renamings.{numbered, renamed_atom}
use Rattle.esto_views.proofs.renaming.rename_rows.Goals as goal

pub rows-init : goal.rows-init
rows-init c = c.new-atoms.ensures

pub rows-preserved : goal.rows-preserved
rows-preserved c =
    map_more (renamed_atom (numbered 0 c.args.seen.now)) c.args.rows.now c.rows.row-index c.row-item.result c.rows.atoms c.push.new.self
    (rw c.items-row-items.ensures at c.rows-test.true) (rw c.items-row-items.ensures at c.row-item.is)
    (c.in_ok-push.ensures.ok ∙ ap (λ it. c.rows.atoms ++ record { fragment = c.row-item.result.relation; terms = it } ∷ [])
    (c.in_ok-terms.ensures ∙ ap (map (numbered 0 c.args.seen.now)) c.items.ensures)) c.rows.invariant

pub returns : goal.returns
returns c = c.rows.invariant ∙ ap (map (renamed_atom (numbered 0 c.args.seen.now)))
    (take_all c.rows.row-index c.args.rows.now (rw c.items-row-items.ensures at c.rows-test.false))
