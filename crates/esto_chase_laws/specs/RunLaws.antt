-- Laws of runs: their start, that they go on to an end, and that they have one.
use Rattle.std.specs.Prelude.{◌≡◌, ◌⊎◌, ◌↔◌, ◌<◌, ◌≤◌, ℕ, List, map, Contains, slice_get, Some}
use Rattle.esto_term.specs.Nesting.{greatest_u64}
use Rattle.esto_term.specs.declared.term.Term.{Term}
use Rattle.esto_term.specs.declared.term.Term.TheVariants.{Const, Made}
use Rattle.esto_semantics.specs.Facts.{Mentions}
use Rattle.esto_semantics.specs.Instances.{IsFinished}
use Rattle.esto_semantics.specs.Maps.{Sends}
use Rattle.esto_semantics.specs.Matches.{IsActive, HasLeast}
use Rattle.esto_semantics.specs.Queries.{ConjunctiveQuery, IsQuery}
use Rattle.esto_semantics.specs.Rules.{Rule, tuple, IsRule, AreRules, MeetsInto}
use Rattle.esto_semantics.specs.declared.fact.Fact.{Fact}
use Rattle.esto_chase_laws.specs.Bounds.{RanksRise}
use Rattle.esto_chase_laws.specs.Making.{frontier}
use Rattle.esto_chase_laws.specs.Runs.{Step, merged, IsStart, IsAdded, IsStep, IsRun, IsEnd, HasClashed, start_of, moved_by, moves_of, merges_of}
use Rattle.esto_chase_laws.specs.declared.clash.Clash.{Clash}

-- The start of a query's run has exactly the facts of its body.
abbrev pub StartsHaveTheBody : Type 0
StartsHaveTheBody = (query : ConjunctiveQuery) (fact : Fact Term) → Contains (start_of query).body fact ↔ Contains query.body fact

-- The start of a query's run has no made term.
abbrev pub QueriesHaveStarts : Type 0
QueriesHaveStarts = (query : ConjunctiveQuery) → IsQuery query → IsStart (start_of query)

-- Two runs of one start to an end end in one state.
abbrev pub EndIsOne : Type 0
EndIsOne =
    (rules : List Rule) (start : ConjunctiveQuery) → AreRules rules
    → (trace other : List Step) (end other_end : ConjunctiveQuery) → IsRun rules start trace end → IsRun rules start other other_end
    → IsEnd rules end → IsEnd rules other_end → end ≡ other_end

-- They apply the same rules at the same places, in the same order.
abbrev pub MovesAreOne : Type 0
MovesAreOne =
    (rules : List Rule) (start : ConjunctiveQuery) → AreRules rules
    → (trace other : List Step) (end other_end : ConjunctiveQuery) → IsRun rules start trace end → IsRun rules start other other_end
    → IsEnd rules end → IsEnd rules other_end → moves_of trace ≡ moves_of other

-- They merge the same terms, from and to, in the same order.
abbrev pub MergesAreOne : Type 0
MergesAreOne =
    (rules : List Rule) (start : ConjunctiveQuery) → AreRules rules
    → (trace other : List Step) (end other_end : ConjunctiveQuery) → IsRun rules start trace end → IsRun rules start other other_end
    → IsEnd rules end → IsEnd rules other_end → merges_of trace ≡ merges_of other

-- A state that has clashed has one clash.
abbrev pub ClashIsOne : Type 0
ClashIsOne =
    (rules : List Rule) → AreRules rules
    → (now : ConjunctiveQuery) (clash other : Clash) → HasClashed rules now clash → HasClashed rules now other → clash ≡ other

-- A state that has clashed is not finished.
abbrev pub ClashedIsNotFinished : Type 0
ClashedIsNotFinished = (rules : List Rule) (now : ConjunctiveQuery) (clash : Clash) → HasClashed rules now clash → ¬ (IsFinished rules now)

-- No step leads on from an end.
abbrev pub EndsHaveNoStep : Type 0
EndsHaveNoStep =
    (rules : List Rule) → AreRules rules → (now next : ConjunctiveQuery) (step : Step) → IsEnd rules now → ¬ (IsStep rules now step next)

-- Where a state is finished no rule has an active match.
abbrev pub FinishedHasNoMatch : Type 0
FinishedHasNoMatch =
    (rules : List Rule) (now : ConjunctiveQuery) → IsFinished rules now
    → (rule : Rule) → Contains rules rule → (m : Term → Term) (places : List ℕ) → ¬ (IsActive rule now.body m places)

-- The rule has a least active match in the facts, or they meet it.
abbrev pub IsDecidedAt : List (Fact Term) → Rule → Type 0
IsDecidedAt facts rule = HasLeast rule facts ⊎ MeetsInto Const ◌≡◌ (Contains facts) rule

-- Over any facts each rule has a least active match, or they meet it.
abbrev pub RulesAreDecided : Type 0
RulesAreDecided = (facts : List (Fact Term)) (rule : Rule) → IsRule rule → IsDecidedAt facts rule

-- A state in which no rule has an active match is finished.
abbrev pub NoMatchIsFinished : Type 0
NoMatchIsFinished =
    (rules : List Rule) (now : ConjunctiveQuery) → AreRules rules
    → ((rule : Rule) → Contains rules rule → (m : Term → Term) (places : List ℕ) → ¬ (IsActive rule now.body m places)) → IsFinished rules now

-- A state in which each rule has a least active match or is met is an end, or a step leads on from it.
abbrev pub StatesGoOn : Type 0
StatesGoOn =
    (rules : List Rule) (now : ConjunctiveQuery) → ((rule : Rule) → Contains rules rule → IsDecidedAt now.body rule)
    → IsEnd rules now ⊎ ((step : Step) × (next : ConjunctiveQuery) × IsStep rules now step next)

-- Where ranks rise, each start has a run to an end.
abbrev pub RunsReachAnEnd : Type 0
RunsReachAnEnd =
    (rules : List Rule) (start : ConjunctiveQuery) (rank : ℕ → ℕ) (depth : ℕ) → AreRules rules → IsStart start
    → RanksRise rules rank → ((relation : ℕ) → rank relation ≤ depth) → depth < greatest_u64
    → (trace : List Step) × (end : ConjunctiveQuery) × IsRun rules start trace end × IsEnd rules end

-- A run's head is the start's head under the merges.
abbrev pub HeadsGoAlong : Type 0
HeadsGoAlong =
    (rules : List Rule) (start : ConjunctiveQuery) → AreRules rules → IsStart start
    → (trace : List Step) (now : ConjunctiveQuery) → IsRun rules start trace now → now.head ≡ map (moved_by trace) start.head

-- The merges take a start's facts to facts of each state of its run.
abbrev pub FactsGoAlong : Type 0
FactsGoAlong =
    (rules : List Rule) (start : ConjunctiveQuery) → AreRules rules → IsStart start
    → (trace : List Step) (now : ConjunctiveQuery) → IsRun rules start trace now → Sends (moved_by trace) start.body now.body

-- The merges leave each term of a state's facts as it is.
abbrev pub MentionedTermsStay : Type 0
MentionedTermsStay =
    (rules : List Rule) (start : ConjunctiveQuery) → AreRules rules → IsStart start
    → (trace : List Step) (now : ConjunctiveQuery) → IsRun rules start trace now
    → (term : Term) → Mentions now.body term → moved_by trace term ≡ term

-- The merges take the two terms of each merge to one term.
abbrev pub MergedTermsMeet : Type 0
MergedTermsMeet =
    (rules : List Rule) (start : ConjunctiveQuery) → AreRules rules → IsStart start
    → (trace : List Step) (now : ConjunctiveQuery) → IsRun rules start trace now
    → (number : ℕ) (m : Term → Term) (places : List ℕ) (from to : Term) → Contains trace (merged number m places from to)
    → moved_by trace from ≡ moved_by trace to

-- A term that a tuple rule's step makes stands in no fact before the step.
abbrev pub MadeTermsAreNew : Type 0
MadeTermsAreNew =
    (rules : List Rule) (start : ConjunctiveQuery) → AreRules rules → IsStart start
    → (trace : List Step) (now next : ConjunctiveQuery) → IsRun rules start trace now
    → (number : ℕ) (m : Term → Term) (places : List ℕ) → IsAdded rules now next number m places
    → (body head : List (Fact Term)) → slice_get rules number ≡ Some (tuple body head)
    → (variable : ℕ) → ¬ (Mentions now.body (Made number variable (map m (frontier body head))))
