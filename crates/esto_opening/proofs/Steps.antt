-- The steps of an opening, for the search.
use Rattle.esto_course.proofs.Asking.{quiet_judges, quiet_gives, quiet_refuses, quiet_demands, quiet_then}
use Rattle.esto_course.proofs.Steps.{then_goes, gives_goes, at_exit}
use Rattle.esto_status.proofs.AskedSteps.{exit_asks, handed_asks, later_asks, quiet_asks}
use Rattle.esto_status.proofs.Steps.{last_stops, later_stops, rose_stops, still_stops}

-- the steps of an opening
pub ruleset steps = (at_exit, rose_stops, still_stops, last_stops, later_stops, then_goes, gives_goes)

-- what they ask for
pub ruleset asked_steps = (handed_asks, exit_asks, later_asks, quiet_asks, quiet_judges, quiet_gives, quiet_refuses, quiet_demands, quiet_then)
