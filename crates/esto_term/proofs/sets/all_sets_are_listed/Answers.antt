use Rattle.esto_term.proofs.SetLemmas as lemmas
use Rattle.esto_term.proofs.sets.all_sets_are_listed.Goals as goal

pub returns : goal.returns
returns c = lemmas.all_sets_are_listed
