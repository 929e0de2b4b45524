use Rattle.esto_semantics.proofs.ListedLemmas.{tested_are_rewritings, listed_are_minimal, listed_exist, listed_is_one, listed_cover, none_is_listed}
use Rattle.esto_semantics.proofs.PickLemmas.{no_rewriting_exists}
use Rattle.esto_semantics.proofs.listed.listed_sets_are_minimal.Goals as goal

pub returns : goal.returns
returns c = record {
  tested = tested_are_rewritings;
  minimal = listed_are_minimal;
  exist = listed_exist;
  one = listed_is_one;
  cover = listed_cover;
  none = none_is_listed;
  no_rewriting = no_rewriting_exists;
}
