use Rattle.std.proofs.Common.{refl}
use Rattle.std.proofs.lemmas.Option.{slice_get_read}
use Rattle.esto_query.proofs.IndexLemmas.{AreInBuckets-next}
use Rattle.esto_query.proofs.index.add_relations.Goals as goal

pub facts-preserved : goal.facts-preserved
facts-preserved c =
    AreInBuckets-next c.args.facts.now c.index-facts-place.result c.facts.place c.facts.relations c.put.new.self
    (slice_get_read c.args.facts.now _ c.facts.place _ refl c.facts-test.true c.index-facts-place.is) c.put.ensures.some
    (rw (← c.index-facts-place.is) at c.in_ok-put.ensures.ok) c.facts.invariant
