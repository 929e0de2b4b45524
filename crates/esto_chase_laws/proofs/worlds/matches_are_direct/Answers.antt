use Rattle.esto_chase_laws.proofs.MatchLemmas.{matches_direct}
use Rattle.esto_chase_laws.proofs.worlds.matches_are_direct.Goals as goal

pub returns : goal.returns
returns c = matches_direct
