-- What the entries of a plan say of the sets of its atoms.
use Rattle.std.specs.Prelude.{◌≡◌, ◌⊎◌, ◌↔◌, ℕ, Bool, List, length, map, slice_index, Contains}
use Rattle.esto_constraint.specs.Constraints.{rules_of}
use Rattle.esto_constraint.specs.declared.rule.Constraint.{Constraint}
use Rattle.esto_semantics.specs.UnionSets.{AnswersUnion}
use Rattle.esto_query.specs.Making.{query_of}
use Rattle.esto_query.specs.declared.query.Query.{Query}
use Rattle.esto_semantics.specs.Containment.{IsSatisfiable}
use Rattle.esto_semantics.specs.Listed.{AnswersQuery}
use Rattle.esto_semantics.specs.Plans.{IsUniversalPlan}
use Rattle.esto_semantics.specs.Rules.{Rule}
use Rattle.esto_semantics.specs.Unions.{ReceivesUnions}
use Rattle.esto_views.specs.Expanded.{AreExpanded, Expands}
use Rattle.esto_views.specs.Fragments.{views_of}
use Rattle.esto_views.specs.Plans.{plan_query}
use Rattle.esto_semantics.specs.declared.expanded.ExpandedFact.{ExpandedFact}
use Rattle.esto_views.specs.declared.fragments.FragmentDef.{FragmentDef}
use Rattle.esto_views.specs.declared.plan.Plan.{Plan}
use Rattle.esto_chase_laws.specs.Derived.{AreDerived}
use Rattle.esto_chase_laws.specs.WorldLaws.{AreGiven, HasMatch, IsSound, IsReceivedNowhere, IsDatabase, AreNestedWithin}
use Rattle.esto_chase_laws.specs.Worlds.{InWorld, AreOfCount, IsClosed, IsBroken, IsDenied}
use Rattle.esto_chase_laws.specs.declared.entry.Entry.{Entry}

-- The entries say of each set of so many atoms what the rules make of its expanded facts, under ranks of the relations: each of these facts stands in the set's
-- world, which is closed, sound, and a database that meets the rules, or else no such database receives the facts; a term of a fact nests no deeper than the
-- rank of the fact's relation; and each entry follows from those before it.
pub record AreConditional (rules : List Rule) (rank : ℕ → ℕ) (count : ℕ) (expanded : List ExpandedFact) (entries : List Entry) : Type 0 where
  pub counted : AreOfCount count entries
  pub given : AreGiven expanded entries
  pub closed : (set : List Bool) → IsClosed rules (InWorld entries set)
  pub sound : (set : List Bool) → IsSound expanded rules entries set
  pub database : (set : List Bool) → ¬ (IsBroken (InWorld entries set)) → ¬ (IsDenied rules (InWorld entries set)) → IsDatabase rules (InWorld entries set)
  pub nowhere : (set : List Bool) → IsBroken (InWorld entries set) ⊎ IsDenied rules (InWorld entries set) → IsReceivedNowhere expanded rules set
  pub bounded : AreNestedWithin rank entries
  pub derived : AreDerived expanded rules entries

-- They say so of the plan's expansion over the fragments, under the rules and the ranks.
abbrev pub AreEntriesOf : List FragmentDef → List Constraint → List ℕ → Plan → List Entry → Type 0
AreEntriesOf fragments rules ranks plan entries =
    (expanded : List ExpandedFact) × AreExpanded fragments 0 (length plan.names) plan.atoms expanded
    × Expands plan fragments expanded
    × AreConditional (rules_of rules) (slice_index ranks) (length plan.atoms) expanded entries

-- In the world of the set the query's body has a match whose head is, place by place, one with the plan's head.
abbrev pub MatchesIn : Query → Plan → List Entry → List Bool → Type 0
MatchesIn query plan entries set = HasMatch (InWorld entries set) (query_of query).head (query_of query).body plan.head

-- The entries decide which sets of the plan's atoms answer the query: exactly those in whose worlds it has such a match.
abbrev pub DecideAnswers : List FragmentDef → List Constraint → Query → Plan → List Entry → Type 0
DecideAnswers fragments rules query plan entries =
    (set : List Bool) → length set ≡ length plan.atoms
    → AnswersQuery (rules_of rules) (views_of fragments) (query_of query) (plan_query plan) set ↔ MatchesIn query plan entries set

-- In the world of the set one of the queries has such a match.
abbrev pub OneMatchesIn : List Query → Plan → List Entry → List Bool → Type 0
OneMatchesIn queries plan entries set = (query : Query) × Contains queries query × MatchesIn query plan entries set

-- No set's world makes two different constants one, or has a match of a denial's body.
abbrev pub AreConsistent : List Rule → List Entry → Type 0
AreConsistent rules entries = (set : List Bool) → ¬ (IsBroken (InWorld entries set)) × ¬ (IsDenied rules (InWorld entries set))

-- The entries of a plan that is universal for a satisfiable query decide which sets of its atoms answer the query.
abbrev pub EntriesDecideAnswers : Type 0
EntriesDecideAnswers =
    (fragments : List FragmentDef) (rules : List Constraint) (ranks : List ℕ) (query : Query) (plan : Plan) (entries : List Entry)
    → length plan.head ≡ length query.head
    → IsUniversalPlan (rules_of rules) (views_of fragments) (query_of query) (plan_query plan)
    → IsSatisfiable (rules_of rules) (query_of query) → AreEntriesOf fragments rules ranks plan entries → DecideAnswers fragments rules query plan entries

-- The entries of a plan that receives unions for a satisfiable query are consistent.
abbrev pub EntriesAreConsistent : Type 0
EntriesAreConsistent =
    (fragments : List FragmentDef) (rules : List Constraint) (ranks : List ℕ) (query : Query) (plan : Plan) (entries : List Entry)
    → IsSatisfiable (rules_of rules) (query_of query) → AreEntriesOf fragments rules ranks plan entries
    → ReceivesUnions (rules_of rules) (views_of fragments) (query_of query) (plan_query plan)
    → AreConsistent (rules_of rules) entries

-- The entries of a plan, where they are consistent, decide which sets of its atoms answer a part of a union: exactly those in whose worlds one of the union's
-- queries has such a match.
abbrev pub EntriesDecideUnions : Type 0
EntriesDecideUnions =
    (fragments : List FragmentDef) (rules : List Constraint) (ranks : List ℕ) (queries : List Query) (plan : Plan) (entries : List Entry)
    → AreEntriesOf fragments rules ranks plan entries
    → AreConsistent (rules_of rules) entries → (set : List Bool) → length set ≡ length plan.atoms
    → AnswersUnion (rules_of rules) (views_of fragments) (map query_of queries) (plan_query plan) set
    ↔ OneMatchesIn queries plan entries set
