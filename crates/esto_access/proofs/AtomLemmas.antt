-- The atoms of a plan, read as facts over fragments, and lists of numbers.
use Rattle.std.proofs.Common.{◌≡◌, ◌↔◌, ℕ, ◌<◌, ◌≤◌, Bool, List, map, length, get_or, [], Option, None, Some, slice_get, slice_index_or, IsTrue, Contains, refl}
use Rattle.std.proofs.Common.{sym, ◌∙◌, subst, arith}
use Rattle.std.specs.Option.{is_some}
use Rattle.std.proofs.lemmas.Bool.{false≢true}
use Rattle.std.proofs.lemmas.List.{get_or_default, get_or_past, length-map}
use Rattle.std.proofs.lemmas.Option.{same_Some, slice_get_within, get_or_from_slice_get}
use Rattle.esto_term.specs.declared.term.Term.{Term}
use Rattle.esto_semantics.specs.declared.fact.Fact.{Fact}
use Rattle.esto_term.specs.Sets.{Has}
use Rattle.esto_semantics.specs.Access.{Patterns, IsAccessible}
use Rattle.esto_views.specs.declared.plan.PlanAtom.{PlanAtom}
use Rattle.esto_views.specs.declared.fragments.FragmentDef.{FragmentDef}
use Rattle.esto_views.specs.Fragments.{patterns_of}
use Rattle.esto_views.specs.Plans.{fact_of}
use Rattle.esto_access.specs.Runs.{CanFollow}
use Rattle.esto_access.specs.Ways.{IsWay}
use Rattle.esto_term.proofs.ListLemmas.{Contains-at, map_at}

module _ (atoms : List PlanAtom) (number : ℕ) (atom : PlanAtom) (at : slice_get atoms number ≡ Some atom) where
  pub at_fact : slice_get (map fact_of atoms) number ≡ Some (fact_of atom)
  at_fact = map_at fact_of atoms number atom at

  pub one_fact : (fact : Fact Term) → slice_get (map fact_of atoms) number ≡ Some fact → fact_of atom ≡ fact
  one_fact fact e = same_Some (fact_of atom) fact (sym at_fact ∙ e)

  pub occurs : (term : Term) (answer : Bool) → IsTrue answer ↔ Contains atom.terms term
      → IsTrue answer ↔ ((fact : Fact Term) × (slice_get (map fact_of atoms) number ≡ Some fact) × Contains fact.terms term)
  occurs term answer told = (
    λ yes. (fact_of atom, at_fact, told.0 yes),
    λ found. told.1 (subst (λ (it : Fact Term). Contains it.terms term) (sym (one_fact found.0 found.1)) found.2),
  )

  pub follows : (patterns : Patterns) (set : List Bool) (earlier : List ℕ) (answer : Bool) → Has set number → ¬ (Contains earlier number)
      → IsTrue answer ↔ IsAccessible patterns (map fact_of atoms) (Contains earlier) (fact_of atom)
      → IsTrue answer ↔ CanFollow patterns (map fact_of atoms) set earlier number
  follows patterns set earlier answer has absent told = (
    λ yes. record {
      there = slice_get_within (map fact_of atoms) number (fact_of atom) at_fact;
      chosen = has;
      absent = absent;
      ready = λ fact e. subst (IsAccessible patterns (map fact_of atoms) (Contains earlier)) (one_fact fact e) (told.0 yes);
    },
    λ can. told.1 (can.ready (fact_of atom) at_fact),
  )

-- ---- what holds of each number of a list

-- what holds of none of the first few numbers holds of no number of the list, where these are all
pub holds_of_none : (P : ℕ → Type 0) (numbers : List ℕ) (count : ℕ) → length numbers ≤ count → ((k : ℕ) → k < count → ¬ (P (get_or numbers k 0))) → (number : ℕ)
    → Contains numbers number → ¬ (P number)
holds_of_none P numbers count l none number h holds = none h.0 (omega (arith, h.1, l)) (subst P (sym (get_or_default numbers h.0 0 number h.1 ∙ h.2)) holds)

-- what holds at each of the first few places holds at each place, where these are all
pub holds_at_each : (P : ℕ → ℕ → Type 0) (numbers : List ℕ) (count : ℕ) → length numbers ≤ count → ((k : ℕ) → k < count → P k (get_or numbers k 0))
    → (place number : ℕ) → slice_get numbers place ≡ Some number → P place number
holds_at_each P numbers count l each place number e = subst (P place) (get_or_from_slice_get numbers place number 0 e)
    (each place (omega (arith, slice_get_within numbers place number e, l)))

-- ---- the way in which an atom is read

-- no patterns are given past the last fragment
pub no_patterns : (fragments : List FragmentDef) (number : ℕ) → length fragments ≤ number → slice_index_or (patterns_of fragments) number [] ≡ []
no_patterns fragments number past =
    get_or_past (patterns_of fragments) number [] (let same = length-map fragments (λ (it : FragmentDef). it.access) in omega (arith, same, past))

-- an atom is accessible where there is a way in which it is read
pub way_tells : (patterns : Patterns) (atoms : List (Fact Term)) (Chosen : ℕ → Type 0) (atom : Fact Term) (way : Option ℕ)
    → IsWay atoms Chosen atom (slice_index_or patterns atom.relation []) way → IsTrue (is_some way) ↔ IsAccessible patterns atoms Chosen atom
way_tells patterns atoms Chosen atom None none = (λ e. absurd (false≢true e), λ (pattern, inside, meets). absurd (none pattern inside meets))
way_tells patterns atoms Chosen atom (Some place) first =
    (λ _. (first.pattern, Contains-at (slice_index_or patterns atom.relation []) place first.pattern first.at, first.meets), λ _. refl)
