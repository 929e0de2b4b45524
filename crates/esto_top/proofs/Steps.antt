-- The steps of commands, for the search.
use Rattle.esto_course.proofs.Steps.{then_goes, gives_goes, at_exit}
use Rattle.esto_status.proofs.Steps.{last_stops, later_stops, rose_stops, still_stops}

-- the steps of a command
pub ruleset steps = (at_exit, rose_stops, still_stops, last_stops, later_stops, then_goes, gives_goes)
