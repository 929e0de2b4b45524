-- Laws of listed sets, weights and the pick.
use Rattle.std.specs.Prelude.{◌≡◌, ◌≢◌, ◌↔◌, ℕ, ◌≤◌, Bool, IsTrue, List, [], length, sum, map, filter, Some, slice_get, slice_index_or, Contains, AllPairs}
use Rattle.std.specs.List.{AllZip}
use Rattle.esto_term.specs.declared.term.Term.{Term}
use Rattle.esto_semantics.specs.Queries.{ConjunctiveQuery}
use Rattle.esto_semantics.specs.Rules.{Rule}
use Rattle.esto_term.specs.Sets.{Has, IsMinimal, AreMinimal, AreListedBy, Covers, AreInOrder, Rises, TellHolds, all_sets}
use Rattle.esto_semantics.specs.Listed.{chosen, AnswersQuery, IsEquivalentPart, IsRewriting, IsListed, AreListed, IsExecutableRewriting, IsWeight, IsPick}
use Rattle.esto_semantics.specs.declared.fact.Fact.{Fact}
use Rattle.esto_semantics.specs.Access.{Patterns, HoldsExecutably, HoldsOfPart}
use Rattle.esto_semantics.specs.Containment.{IsSatisfiable}
use Rattle.esto_semantics.specs.Instances.{IsUniversalFor}
use Rattle.esto_semantics.specs.Maps.{AreFlat}
use Rattle.esto_semantics.specs.Plans.{IsUniversalPlan}
use Rattle.esto_semantics.specs.Rewritings.{IsPlanFor}

-- The family has exactly the rewritings.
abbrev pub AreRewritings : List Rule → List ConjunctiveQuery → Patterns → ConjunctiveQuery → ConjunctiveQuery → List (List Bool) → Type 0
AreRewritings rules views patterns query plan family = (set : List Bool) → Contains family set ↔ IsRewriting rules views patterns query plan set

-- The test tells the rewritings among the sets of the plan's atoms.
abbrev pub TellsRewritings : List Rule → List ConjunctiveQuery → Patterns → ConjunctiveQuery → ConjunctiveQuery → (List Bool → Bool) → Type 0
TellsRewritings rules views patterns query plan test =
    (set : List Bool) → length set ≡ length plan.body → IsTrue (test set) ↔ IsRewriting rules views patterns query plan set

-- The sets that pass a test which tells the rewritings are the rewritings.
abbrev pub TestedAreRewritings : Type 0
TestedAreRewritings =
    (rules : List Rule) (views : List ConjunctiveQuery) (patterns : Patterns) (query plan : ConjunctiveQuery) (test : List Bool → Bool)
    → TellsRewritings rules views patterns query plan test → AreRewritings rules views patterns query plan (filter test (all_sets (length plan.body)))

-- A list has the listed sets, in order, exactly where it is in order and has the minimal sets of the family of rewritings.
abbrev pub ListedAreMinimal : Type 0
ListedAreMinimal =
    (rules : List Rule) (views : List ConjunctiveQuery) (patterns : Patterns) (query plan : ConjunctiveQuery) (family sets : List (List Bool))
    → AreRewritings rules views patterns query plan family
    → AreListed rules views patterns query plan sets ↔ (AreMinimal family sets × AreInOrder sets)

-- Where the family of rewritings is given, the list of the listed sets exists.
abbrev pub ListedExist : Type 0
ListedExist =
    (rules : List Rule) (views : List ConjunctiveQuery) (patterns : Patterns) (query plan : ConjunctiveQuery) (family : List (List Bool))
    → AreRewritings rules views patterns query plan family → (sets : List (List Bool)) × AreListed rules views patterns query plan sets

-- There is one list of the listed sets.
abbrev pub ListedIsOne : Type 0
ListedIsOne =
    (rules : List Rule) (views : List ConjunctiveQuery) (patterns : Patterns) (query plan : ConjunctiveQuery) (sets others : List (List Bool))
    → AreListed rules views patterns query plan sets → AreListed rules views patterns query plan others → sets ≡ others

-- Each rewriting has one of the listed sets within it.
abbrev pub ListedCover : Type 0
ListedCover =
    (rules : List Rule) (views : List ConjunctiveQuery) (patterns : Patterns) (query plan : ConjunctiveQuery) (sets : List (List Bool))
    → AreListed rules views patterns query plan sets → (set : List Bool) → IsRewriting rules views patterns query plan set → Covers sets set

-- The list is empty exactly where no set of the plan's atoms is a rewriting.
abbrev pub NoneIsListed : Type 0
NoneIsListed =
    (rules : List Rule) (views : List ConjunctiveQuery) (patterns : Patterns) (query plan : ConjunctiveQuery) (sets : List (List Bool))
    → AreListed rules views patterns query plan sets
    → (sets ≡ []) ↔ ((set : List Bool) → IsRewriting rules views patterns query plan set → ⊥)

-- The list of a satisfiable query's universal plan is empty exactly where the query has no executable rewriting at all.
abbrev pub NoRewritingExists : Type 0
NoRewritingExists =
    (rules : List Rule) (views : List ConjunctiveQuery) (patterns : Patterns) (query plan : ConjunctiveQuery) (sets : List (List Bool))
    → IsPlanFor query plan → IsUniversalPlan rules views query plan → IsSatisfiable rules query → AreListed rules views patterns query plan sets
    → (sets ≡ []) ↔ ((other : ConjunctiveQuery) → IsExecutableRewriting rules views patterns query other → ⊥)

-- Where sets tell which sets answer the query, the listed sets are the minimal executable sets that have one of them as a subset.
abbrev pub ListedAreExecutable : Type 0
ListedAreExecutable =
    (rules : List Rule) (views : List ConjunctiveQuery) (patterns : Patterns) (query plan : ConjunctiveQuery) (sets : List (List Bool))
    → TellHolds (length plan.body) (AnswersQuery rules views query plan) sets
    → (set : List Bool) → IsListed rules views patterns query plan set ↔ IsMinimal (HoldsExecutably patterns plan.body (Covers sets)) set

-- The listed sets are the minimal sets whose accessible part answers the query.
abbrev pub ListedAreOfParts : Type 0
ListedAreOfParts =
    (rules : List Rule) (views : List ConjunctiveQuery) (patterns : Patterns) (query plan : ConjunctiveQuery) (set : List Bool)
    → IsListed rules views patterns query plan set ↔ IsMinimal (HoldsOfPart patterns plan.body (AnswersQuery rules views query plan)) set

-- A set of a universal plan's atoms that has a set within it which answers the query answers it too.
abbrev pub AnsweringRises : Type 0
AnsweringRises =
    (rules : List Rule) (views : List ConjunctiveQuery) (query plan : ConjunctiveQuery) → IsPlanFor query plan → IsUniversalPlan rules views query plan
    → Rises (length plan.body) (AnswersQuery rules views query plan)

-- So the minimal sets of a universal plan's atoms that answer the query tell which sets of them do.
abbrev pub AnsweringIsTold : Type 0
AnsweringIsTold =
    (rules : List Rule) (views : List ConjunctiveQuery) (query plan : ConjunctiveQuery) → IsPlanFor query plan → IsUniversalPlan rules views query plan
    → (sets : List (List Bool)) → ((set : List Bool) → Contains sets set ↔ IsMinimal (AnswersQuery rules views query plan) set)
    → TellHolds (length plan.body) (AnswersQuery rules views query plan) sets

-- There is one list of the minimal sets of an instance's facts that are equivalent to a query.
abbrev pub EquivalentPartsAreOne : Type 0
EquivalentPartsAreOne =
    (rules : List Rule) (query instance : ConjunctiveQuery) (sets others : List (List Bool))
    → AreListedBy (IsEquivalentPart rules query instance) sets → AreListedBy (IsEquivalentPart rules query instance) others → sets ≡ others

-- Each set of them that is equivalent to the query has a listed one within it.
abbrev pub EquivalentPartsCover : Type 0
EquivalentPartsCover =
    (rules : List Rule) (query instance : ConjunctiveQuery) (sets : List (List Bool)) → AreListedBy (IsEquivalentPart rules query instance) sets
    → (set : List Bool) → IsEquivalentPart rules query instance set → Covers sets set

-- The list is empty exactly where no set of them is equivalent to the query.
abbrev pub NoPartIsListed : Type 0
NoPartIsListed =
    (rules : List Rule) (query instance : ConjunctiveQuery) (sets : List (List Bool)) → AreListedBy (IsEquivalentPart rules query instance) sets
    → (sets ≡ []) ↔ ((set : List Bool) → IsEquivalentPart rules query instance set → ⊥)

-- A set of the facts of an instance that is universal for the query, with a set within it that is equivalent to the query, is equivalent to it too.
abbrev pub EquivalentPartsRise : Type 0
EquivalentPartsRise =
    (rules : List Rule) (query instance : ConjunctiveQuery) → IsUniversalFor rules query instance
    → Rises (length instance.body) (IsEquivalentPart rules query instance)

-- So the minimal ones tell which sets are.
abbrev pub EquivalentPartsAreTold : Type 0
EquivalentPartsAreTold =
    (rules : List Rule) (query instance : ConjunctiveQuery) → IsUniversalFor rules query instance
    → (sets : List (List Bool)) → AreListedBy (IsEquivalentPart rules query instance) sets
    → TellHolds (length instance.body) (IsEquivalentPart rules query instance) sets

-- The atoms that a set chooses are those at its numbers.
abbrev pub ChosenAreNamed : Type 0
ChosenAreNamed =
    (set : List Bool) (atoms : List (Fact Term)) (atom : Fact Term)
    → Contains (chosen set atoms) atom ↔ ((number : ℕ) × Has set number × (slice_get atoms number ≡ Some atom))

-- Atoms have a weight.
abbrev pub WeightExists : Type 0
WeightExists = (weights : List ℕ) (atoms : List (Fact Term)) → (weight : ℕ) × IsWeight weights atoms weight

-- Atoms among others weigh no more than those.
abbrev pub WeightRises : Type 0
WeightRises =
    (weights : List ℕ) (atoms others : List (Fact Term)) (weight other : ℕ) → ((atom : Fact Term) → Contains atoms atom → Contains others atom)
    → IsWeight weights atoms weight → IsWeight weights others other → weight ≤ other

-- Atoms have one weight.
abbrev pub WeightIsOne : Type 0
WeightIsOne =
    (weights : List ℕ) (atoms : List (Fact Term)) (weight other : ℕ) → IsWeight weights atoms weight → IsWeight weights atoms other → weight ≡ other

-- Where the atoms of a plan are distinct, the weight of those that a set chooses is the plain sum of their weights.
abbrev pub WeightIsSum : Type 0
WeightIsSum =
    (weights : List ℕ) (atoms : List (Fact Term)) (set : List Bool) → AllPairs ◌≢◌ atoms
    → IsWeight weights (chosen set atoms) (sum (map (λ atom. slice_index_or weights atom.relation 0) (chosen set atoms)))

-- A list of weights that isn't empty has a pick.
abbrev pub PickExists : Type 0
PickExists = (weights : List ℕ) → weights ≢ [] → (place : ℕ) × IsPick weights place

-- A list of weights has one pick.
abbrev pub PickIsOne : Type 0
PickIsOne = (weights : List ℕ) (place other : ℕ) → IsPick weights place → IsPick weights other → place ≡ other

-- The totals are the weights of the sets of a plan's atoms, in order.
abbrev pub AreWeights : List ℕ → ConjunctiveQuery → List (List Bool) → List ℕ → Type 0
AreWeights weights plan sets totals = AllZip (λ set total. IsWeight weights (chosen set plan.body) total) sets totals

-- Where the totals are the weights of the listed sets, no rewriting among the sets of the plan's atoms weighs less than the pick.
abbrev pub PickWeighsLeast : Type 0
PickWeighsLeast =
    (rules : List Rule) (views : List ConjunctiveQuery) (patterns : Patterns) (query plan : ConjunctiveQuery) (sets : List (List Bool))
    (weights totals : List ℕ) → AreListed rules views patterns query plan sets → AreWeights weights plan sets totals → (place : ℕ) → IsPick totals place
    → (set : List Bool) (weight : ℕ) → IsRewriting rules views patterns query plan set → IsWeight weights (chosen set plan.body) weight
    → slice_index_or totals place 0 ≤ weight

-- Where the totals are the weights of the listed sets of a satisfiable query's universal plan, no executable rewriting of the query weighs less than the
-- pick, whatever its variables and its size.
abbrev pub PickWeighsLeastOfAll : Type 0
PickWeighsLeastOfAll =
    (rules : List Rule) (views : List ConjunctiveQuery) (patterns : Patterns) (query plan : ConjunctiveQuery) (sets : List (List Bool))
    (weights totals : List ℕ) → AreFlat plan.body → IsUniversalPlan rules views query plan → IsSatisfiable rules query
    → AreListed rules views patterns query plan sets → AreWeights weights plan sets totals → (place : ℕ) → IsPick totals place
    → (other : ConjunctiveQuery) (weight : ℕ) → IsExecutableRewriting rules views patterns query other → IsWeight weights other.body weight
    → slice_index_or totals place 0 ≤ weight
