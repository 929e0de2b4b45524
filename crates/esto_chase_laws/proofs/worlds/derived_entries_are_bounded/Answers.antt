use Rattle.esto_chase_laws.proofs.WorldEndLemmas.{derived_nested, derived_few}
use Rattle.esto_chase_laws.proofs.worlds.derived_entries_are_bounded.Goals as goal

pub returns-clause-nested : goal.returns-clause-nested
returns-clause-nested c = derived_nested

pub returns-clause-few : goal.returns-clause-few
returns-clause-few c = derived_few
