use Rattle.std.proofs.Common.{refl}
use Rattle.std.proofs.lemmas.List.{length-map}
use Rattle.std.proofs.lemmas.Option.{slice_get_read}
use Rattle.esto_query.specs.Making.{query_of}
use Rattle.esto_views.specs.Fragments.{views_of}
use Rattle.esto_universal.proofs.RowLemmas.{rows_joined, rows_all}
use Rattle.esto_universal.proofs.rows.view_rows.Goals as goal
use Rattle.esto_term.proofs.ListLemmas.{map_at}

pub fragments-preserved : goal.fragments-preserved
fragments-preserved c =
    let (own, are_own, more) = c.in_ok-push_view_rows.ensures in
    rows_joined (views_of c.args.fragments.now) c.args.facts.now c.fragments.number (query_of c.fragment-item.result.view) c.fragments.all _ own
    (map_at (λ it. query_of it.view) c.args.fragments.now c.fragments.number c.fragment-item.result
    (rw c.items-fragment-items.ensures at (slice_get_read _ _ c.fragments.number c.fragment-item.result refl c.fragments-test.true c.fragment-item.is)))
    are_own more c.fragments.invariant

pub returns : goal.returns
returns c =
    rows_all (views_of c.args.fragments.now) c.args.facts.now c.fragments.number c.fragments.all
    (rw (length-map, ← c.items-fragment-items.ensures) c.fragments-test.false) c.fragments.invariant
