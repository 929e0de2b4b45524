use Rattle.esto_semantics.proofs.AnsweringLemmas.{equivalent_parts_are_one, equivalent_parts_cover, no_part_is_listed, equivalent_parts_rise}
use Rattle.esto_semantics.proofs.AnsweringLemmas.{equivalent_parts_are_told}
use Rattle.esto_semantics.proofs.listed.equivalent_parts_have_minimal_sets.Goals as goal

pub returns : goal.returns
returns c = record {
  one = equivalent_parts_are_one;
  cover = equivalent_parts_cover;
  none = no_part_is_listed;
  rises = equivalent_parts_rise;
  told = equivalent_parts_are_told;
}
