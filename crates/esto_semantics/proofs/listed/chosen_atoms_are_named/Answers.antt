use Rattle.esto_semantics.proofs.ListedLemmas.{chosen_are_named}
use Rattle.esto_semantics.proofs.listed.chosen_atoms_are_named.Goals as goal

pub returns : goal.returns
returns c = chosen_are_named
