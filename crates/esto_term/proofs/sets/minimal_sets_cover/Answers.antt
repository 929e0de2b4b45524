use Rattle.esto_term.proofs.SetLemmas.{minimal_are_apart, minimal_cover, minimal_exist, minimal_are_one}
use Rattle.esto_term.proofs.sets.minimal_sets_cover.Goals as goal

pub returns : goal.returns
returns c = record { apart = minimal_are_apart; cover = minimal_cover; exist = minimal_exist; one = minimal_are_one }
