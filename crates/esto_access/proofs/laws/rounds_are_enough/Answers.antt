use Rattle.esto_access.proofs.RoundLemmas as lemmas
use Rattle.esto_access.proofs.laws.rounds_are_enough.Goals as goal

pub returns : goal.returns
returns c = record {
  all = lemmas.rounds_are_enough c.executable_sets_unite.ensures.part;
  last = lemmas.last_round_is_enough
      c.executable_sets_unite.ensures.part;
}
