-- Laws of what a run says of the databases that meet the rules.
use Rattle.std.specs.Prelude.{◌↔◌, List}
use Rattle.esto_term.specs.declared.term.Term.{Term}
use Rattle.esto_semantics.specs.Containment.{IsContained, IsSatisfiable}
use Rattle.esto_semantics.specs.Facts.{Database}
use Rattle.esto_semantics.specs.Instances.{MapsTo, IsUniversalFor, IsFinished}
use Rattle.esto_semantics.specs.Maps.{Keeps, Sends}
use Rattle.esto_semantics.specs.Queries.{ConjunctiveQuery, IsQuery, IsAnswer}
use Rattle.esto_semantics.specs.Rules.{Rule, AreRules, Meets}
use Rattle.esto_semantics.specs.declared.fact.Value.{Value}
use Rattle.esto_semantics.specs.declared.fact.Value.TheVariants.{Text}
use Rattle.esto_chase_laws.specs.Received.{IsReceivedBy}
use Rattle.esto_chase_laws.specs.Runs.{Step, IsStart, IsRun, HasClashed, start_of, moved_by}
use Rattle.esto_chase_laws.specs.declared.clash.Clash.{Clash}

-- Every database that meets the rules receives each state of a run, from every valuation that sends the start's facts into it.
abbrev pub StatesAreReceived : Type 0
StatesAreReceived =
    (rules : List Rule) (start : ConjunctiveQuery) → AreRules rules → IsStart start
    → (trace : List Step) (now : ConjunctiveQuery) → IsRun rules start trace now → IsReceivedBy rules start now (moved_by trace)

-- Each state of a run is universal for the start.
abbrev pub StatesAreUniversal : Type 0
StatesAreUniversal =
    (rules : List Rule) (start : ConjunctiveQuery) → AreRules rules → IsStart start
    → (trace : List Step) (now : ConjunctiveQuery) → IsRun rules start trace now → IsUniversalFor rules start now

-- Each state of a query's run is universal for the query.
abbrev pub StatesAreUniversalForQueries : Type 0
StatesAreUniversalForQueries =
    (rules : List Rule) (query : ConjunctiveQuery) → AreRules rules → IsQuery query
    → (trace : List Step) (now : ConjunctiveQuery) → IsRun rules (start_of query) trace now → IsUniversalFor rules query now

-- Under rules a query is contained in another exactly where the other maps to the end of its finished run.
abbrev pub FinishedRunsDecide : Type 0
FinishedRunsDecide =
    (rules : List Rule) (query right : ConjunctiveQuery) → AreRules rules → IsQuery query
    → (trace : List Step) (end : ConjunctiveQuery) → IsRun rules (start_of query) trace end → IsFinished rules end
    → IsContained rules (IsAnswer query) (IsAnswer right) ↔ MapsTo right end

-- A start that has a finished run is satisfiable, read as a query.
abbrev pub FinishedRunsSatisfy : Type 0
FinishedRunsSatisfy =
    (rules : List Rule) (start : ConjunctiveQuery) → AreRules rules → IsStart start
    → (trace : List Step) (end : ConjunctiveQuery) → IsRun rules start trace end → IsFinished rules end → IsSatisfiable rules start

-- Where a run has clashed no valuation sends the start's facts into a database that meets the rules.
abbrev pub ClashesReceiveNothing : Type 0
ClashesReceiveNothing =
    (rules : List Rule) (start : ConjunctiveQuery) → AreRules rules → IsStart start
    → (trace : List Step) (now : ConjunctiveQuery) → IsRun rules start trace now → (clash : Clash) → HasClashed rules now clash
    → (database : Database) → Meets rules database → (m : Term → Value) → Keeps Text m → ¬ (Sends m start.body database)

-- A query is satisfiable exactly where its start is.
abbrev pub StartsAreSatisfiableAlike : Type 0
StartsAreSatisfiableAlike = (rules : List Rule) (query : ConjunctiveQuery) → IsSatisfiable rules query ↔ IsSatisfiable rules (start_of query)
