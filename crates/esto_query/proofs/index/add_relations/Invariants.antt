use Rattle.esto_query.specs.Indexes.{AreInBuckets}
use Rattle.esto_query.proofs.index.add_relations.Given as goal

abbrev pub invariant-facts : goal.invariant-facts
invariant-facts l = AreInBuckets l.facts l.place l.relations
