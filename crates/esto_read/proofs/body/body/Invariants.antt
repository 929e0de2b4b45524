use Rattle.std.specs.Prelude.{map}
use Rattle.esto_query.specs.Schemas.{arities_of}
use Rattle.esto_text.specs.View.{item_of}
use Rattle.esto_read.proofs.BodyLemmas.{BodySoFar}
use Rattle.esto_read.proofs.body.body.Given as goal

abbrev pub invariant-items : goal.invariant-items
invariant-items l = BodySoFar l.words (arities_of l.schema) l.bytes l.initial.names (map item_of l.items) l.each-index l.body l.names
