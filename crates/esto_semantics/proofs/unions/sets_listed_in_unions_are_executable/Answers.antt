use Rattle.esto_semantics.proofs.UnionLemmas.{union_listed_are_executable, union_listed_are_of_parts, union_answering_rises, union_answering_is_told}
use Rattle.esto_semantics.proofs.unions.sets_listed_in_unions_are_executable.Goals as goal

pub returns : goal.returns
returns c = record {
  executable = union_listed_are_executable;
  parts = union_listed_are_of_parts;
  rises = union_answering_rises;
  told = union_answering_is_told;
}
