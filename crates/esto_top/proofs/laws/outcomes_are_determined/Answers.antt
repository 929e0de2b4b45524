use Rattle.esto_top.proofs.DeterminedLemmas.{asked_begins, fetches_determined, outcomes_determined}
use Rattle.esto_top.proofs.laws.outcomes_are_determined.Goals as goal

pub returns-clause-outcomes : goal.returns-clause-outcomes
returns-clause-outcomes c = outcomes_determined c.courses_are_one.ensures

pub returns-clause-fetches : goal.returns-clause-fetches
returns-clause-fetches c = fetches_determined c.courses_are_one.ensures

pub returns-clause-asked : goal.returns-clause-asked
returns-clause-asked c = asked_begins c.courses_are_one.ensures
