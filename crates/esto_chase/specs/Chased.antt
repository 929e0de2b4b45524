-- What a chase ends with.
use Rattle.std.specs.Prelude.{ℕ, ◌≤◌, List, slice_index, Contains}
use Rattle.esto_term.specs.Nesting.{nesting}
use Rattle.esto_term.specs.declared.term.Term.{Term}
use Rattle.esto_semantics.specs.Facts.{Database}
use Rattle.esto_semantics.specs.Instances.{IsFinished}
use Rattle.esto_semantics.specs.Maps.{Keeps, Sends}
use Rattle.esto_semantics.specs.Queries.{ConjunctiveQuery}
use Rattle.esto_semantics.specs.Rules.{Rule, Meets}
use Rattle.esto_semantics.specs.declared.fact.Fact.{Fact}
use Rattle.esto_semantics.specs.declared.fact.Value.{Value}
use Rattle.esto_semantics.specs.declared.fact.Value.TheVariants.{Text}
use Rattle.esto_chase_laws.specs.Runs.{Step, IsRun, HasClashed}
use Rattle.esto_chase_laws.specs.declared.clash.Clash.{Clash}
use Rattle.esto_instance.specs.Instances.{state_of, trace_of, steps_of}
use Rattle.esto_instance.specs.declared.instance.Instance.{Instance}

-- The instance's trace is a run from the start to its state, which is finished: its facts, read over terms, meet the rules.
pub record IsFinishedRun (rules : List Rule) (start : ConjunctiveQuery) (instance : Instance) : Type 0 where
  pub run : IsRun rules start (steps_of (trace_of instance)) (state_of instance)
  pub finished : IsFinished rules (state_of instance)

-- Some run from the start ends with that clash.
abbrev pub RunClashes : List Rule → ConjunctiveQuery → Clash → Type 0
RunClashes rules start clash =
    (trace : List Step) × (now : ConjunctiveQuery) × IsRun rules start trace now × HasClashed rules now clash

-- No valuation sends the start's facts into a database that meets the rules.
abbrev pub ReceivesNothing : List Rule → ConjunctiveQuery → Type 0
ReceivesNothing rules start =
    (database : Database) → Meets rules database → (m : Term → Value) → Keeps Text m → ¬ (Sends m start.body database)

-- A term in one of the facts nests no deeper than the rank of the fact's relation.
abbrev pub AreNested : List ℕ → List (Fact Term) → Type 0
AreNested ranks facts =
    (fact : Fact Term) (term : Term) → Contains facts fact → Contains fact.terms term → nesting term ≤ slice_index ranks fact.relation
