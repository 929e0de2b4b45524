use Rattle.esto_semantics.proofs.AccessRunLemmas.{part_exists, union_is_executable}
use Rattle.esto_semantics.proofs.AccessLawLemmas.{none_is_executable, part_is_one, executable_is_own_part, part_rises}
use Rattle.esto_semantics.proofs.access.executable_sets_unite.Goals as goal

pub returns : goal.returns
returns c = record {
  none = none_is_executable;
  union = union_is_executable;
  part = part_exists;
  one = part_is_one;
  own = executable_is_own_part;
  rises = part_rises;
}
