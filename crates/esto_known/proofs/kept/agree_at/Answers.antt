use Rattle.std.proofs.Common.{◌≡◌, ◌++◌, slice_get}
use Rattle.std.proofs.lemmas.List.{get_or_default}
use Rattle.esto_term.proofs.ListLemmas.{each_more, each_seen}
use Rattle.esto_known.proofs.kept.agree_at.Goals as goal

pub places-preserved : goal.places-preserved
places-preserved c = each_more (λ place. slice_get c.args.row.now place ≡ slice_get (c.args.to.now ++ c.args.owns.now) place) c.args.places.now
    c.places.place-index _ c.places-test.true (get_or_default c.args.places.now c.places.place-index _ _ c.places-test.true)
    (c.same_at.ensures c.if-not-same_at.false) c.places.invariant

pub returns : goal.returns
returns c _ = each_seen (λ place. slice_get c.args.row.now place ≡ slice_get (c.args.to.now ++ c.args.owns.now) place) c.args.places.now c.places.place-index
    c.places-test.false c.places.invariant
