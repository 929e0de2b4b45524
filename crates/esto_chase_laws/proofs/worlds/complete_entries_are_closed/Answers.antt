use Rattle.esto_chase_laws.proofs.ClosedLemmas.{closed}
use Rattle.esto_chase_laws.proofs.worlds.complete_entries_are_closed.Goals as goal

pub returns : goal.returns
returns c = closed
