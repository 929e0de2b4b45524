use Rattle.esto_chase_laws.proofs.MatchLemmas.{are_reasoned}
use Rattle.esto_chase_laws.proofs.worlds.derived_entries_are_reasoned.Goals as goal

pub returns : goal.returns
returns c = are_reasoned
