use Rattle.esto_chase_laws.proofs.MatchRestLemmas.{matches_rest}
use Rattle.esto_chase_laws.proofs.worlds.matches_rest_on_atoms.Goals as goal

pub returns : goal.returns
returns c = matches_rest
