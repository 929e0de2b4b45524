-- Candidates, and the listed sets of a plan. Source: minimal reformulations of chase and backchase (Deutsch, Popa and Tannen; Ileana, Cautis, Deutsch and
-- Katsis 2014), with minimality asked among executable sets.
use Rattle.std.specs.Prelude.{◌≡◌, ◌≢◌, ◌↔◌, ℕ, ◌≤◌, ◌<◌, Bool, cond, List, [], ◌∷◌, length, sum, map, slice_index_or, Contains, AllPairs}
use Rattle.esto_term.specs.declared.term.Term.{Term}
use Rattle.esto_semantics.specs.Maps.{IsFixedBy}
use Rattle.esto_semantics.specs.Queries.{ConjunctiveQuery, IsQuery, IsAnswer}
use Rattle.esto_semantics.specs.Rules.{Rule}
use Rattle.esto_semantics.specs.Containment.{IsEquivalent}
use Rattle.esto_semantics.specs.Views.{IsFragmentAnswer}
use Rattle.esto_term.specs.Sets.{Has, IsMinimal, AreListedBy}
use Rattle.esto_semantics.specs.Access.{Patterns, IsExecutable, IsExecutableQuery}
use Rattle.esto_semantics.specs.declared.fact.Fact.{Fact}

-- The atoms of a plan that a set names, in order.
abbrev pub chosen : List Bool → List (Fact Term) → List (Fact Term)
chosen [] atoms = []
chosen (is_in ∷ rest) [] = []
chosen (is_in ∷ rest) (atom ∷ atoms) = cond is_in (atom ∷ chosen rest atoms) (chosen rest atoms)

-- The candidate of a set has the plan's head over the set's atoms.
abbrev pub candidate : ConjunctiveQuery → List Bool → ConjunctiveQuery
candidate plan set = record { head = plan.head; body = chosen set plan.body }

-- The set has a candidate: it is a set of the plan's atoms, with at least one of them.
pub record HasCandidate (plan : ConjunctiveQuery) (set : List Bool) : Type 0 where
  pub over : length set ≡ length plan.body
  pub some : (number : ℕ) × Has set number

-- The set is safe: each term of the plan's head that is no constant occurs in one of its atoms.
abbrev pub IsSafe : ConjunctiveQuery → List Bool → Type 0
IsSafe plan set = (term : Term) → Contains plan.head term → IsFixedBy (chosen set plan.body) term

-- The set answers the query: it has a candidate, which is equivalent to the query, and it is safe.
pub record AnswersQuery (rules : List Rule) (views : List ConjunctiveQuery) (query plan : ConjunctiveQuery) (set : List Bool) : Type 0 where
  pub has_candidate : HasCandidate plan set
  pub safe : IsSafe plan set
  pub equivalent : IsEquivalent rules (IsFragmentAnswer views (candidate plan set)) (IsAnswer query)

-- The set of an instance's facts is equivalent to the query: it has a candidate, which as a query over the datasets, with the instance's head, is equivalent
-- to the query, and it is safe.
pub record IsEquivalentPart (rules : List Rule) (query instance : ConjunctiveQuery) (set : List Bool) : Type 0 where
  pub has_candidate : HasCandidate instance set
  pub safe : IsSafe instance set
  pub equivalent : IsEquivalent rules (IsAnswer (candidate instance set)) (IsAnswer query)

-- The set is a rewriting: it has a candidate, which is equivalent to the query, and it is safe and executable.
pub record IsRewriting (rules : List Rule) (views : List ConjunctiveQuery) (patterns : Patterns) (query plan : ConjunctiveQuery)
    (set : List Bool) : Type 0 where
  pub has_candidate : HasCandidate plan set
  pub safe : IsSafe plan set
  pub executable : IsExecutable patterns plan.body set
  pub equivalent : IsEquivalent rules (IsFragmentAnswer views (candidate plan set)) (IsAnswer query)

-- The set is listed: it is minimal among the rewritings.
abbrev pub IsListed : List Rule → List ConjunctiveQuery → Patterns → ConjunctiveQuery → ConjunctiveQuery → List Bool → Type 0
IsListed rules views patterns query plan set = IsMinimal (IsRewriting rules views patterns query plan) set

-- These are exactly the listed sets, each once, by size and then by their rising lists of numbers.
abbrev pub AreListed : List Rule → List ConjunctiveQuery → Patterns → ConjunctiveQuery → ConjunctiveQuery → List (List Bool) → Type 0
AreListed rules views patterns query plan sets = AreListedBy (IsRewriting rules views patterns query plan) sets

-- A query over fragments is an executable rewriting of the query: it is executable, and equivalent to it.
pub record IsExecutableRewriting (rules : List Rule) (views : List ConjunctiveQuery) (patterns : Patterns) (query other : ConjunctiveQuery) : Type 0 where
  pub is_query : IsQuery other
  pub executable : IsExecutableQuery patterns other
  pub equivalent : IsEquivalent rules (IsFragmentAnswer views other) (IsAnswer query)

-- The weight of atoms over fragments is the sum of the distinct atoms' weights. Each atom has the weight of its fragment.
abbrev pub IsWeight : List ℕ → List (Fact Term) → ℕ → Type 0
IsWeight weights atoms weight =
    (distinct : List (Fact Term)) × AllPairs ◌≢◌ distinct × ((atom : Fact Term) → Contains distinct atom ↔ Contains atoms atom)
    × (weight ≡ sum (map (λ atom. slice_index_or weights atom.relation 0) distinct))

-- The place is the pick among the weights of the listed sets: the first of least weight.
pub record IsPick (weights : List ℕ) (place : ℕ) : Type 0 where
  pub there : place < length weights
  pub least : (other : ℕ) → other < length weights → slice_index_or weights place 0 ≤ slice_index_or weights other 0
  pub first : (other : ℕ) → other < place → slice_index_or weights place 0 < slice_index_or weights other 0
