use Rattle.esto_chase_laws.proofs.DatabaseLemmas.{databases}
use Rattle.esto_chase_laws.proofs.worlds.closed_worlds_are_databases.Goals as goal

pub returns : goal.returns
returns c = databases
