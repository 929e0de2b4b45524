use Rattle.esto_top.proofs.ReasoningLemmas.{outcomes_are_containments, outcomes_are_minimised}
use Rattle.esto_top.proofs.laws.reasoning_outcomes_hold.Goals as goal

pub returns-clause-contains : goal.returns-clause-contains
returns-clause-contains c = outcomes_are_containments c.reasoning_outcomes_are_exact.ensures.contains

pub returns-clause-minimise : goal.returns-clause-minimise
returns-clause-minimise c = outcomes_are_minimised c.reasoning_outcomes_are_exact.ensures.minimise
