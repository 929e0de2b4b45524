use Rattle.esto_semantics.proofs.ShownLemmas.{part_contains, part_is_equivalent}
use Rattle.esto_semantics.proofs.containment.parts_of_an_instance_contain_the_query.Goals as goal

pub returns : goal.returns
returns c = record { contains = part_contains; equivalent = part_is_equivalent }
