-- What instances and their traces mean.
use Rattle.std.specs.Prelude.{List, map}
use Rattle.esto_semantics.specs.Queries.{ConjunctiveQuery}
use Rattle.esto_semantics.specs.Valuations.{map_of}
use Rattle.esto_chase_laws.specs.Runs.{Step, added, merged}
use Rattle.esto_instance.specs.declared.instance.ChaseStep.{ChaseStep}
use Rattle.esto_instance.specs.declared.instance.ChaseStep.TheVariants.{Added, Merged}
use Rattle.esto_instance.specs.declared.instance.Instance.{Instance}

-- The state of an instance: its facts and its head, as a query.
abbrev pub state_of : Instance → ConjunctiveQuery
state_of instance = record { head = instance.head; body = instance.facts }

-- The trace of an instance.
abbrev pub trace_of : Instance → List ChaseStep
trace_of instance = instance.trace

-- A step of a run, where the match's map is that of its valuation.
abbrev pub step_of : ChaseStep → Step
step_of (Added number found) = added number (map_of found.valuation) found.places
step_of (Merged number found from to) = merged number (map_of found.valuation) found.places from to

-- The steps of a trace.
abbrev pub steps_of : List ChaseStep → List Step
steps_of trace = map step_of trace
