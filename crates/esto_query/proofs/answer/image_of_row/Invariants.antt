use Rattle.std.proofs.Common.{◌≡◌, map, take}
use Rattle.esto_semantics.specs.Valuations.{map_of}
use Rattle.esto_query.specs.Trails.{with_trail}
use Rattle.esto_query.proofs.answer.image_of_row.Given as goal

abbrev pub invariant-loop-term : goal.invariant-loop-term
invariant-loop-term l = l.images ≡ map (map_of (with_trail l.start l.trail)) (take l.term-index l.row)
