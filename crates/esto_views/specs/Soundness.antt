-- What a plan keeps.
use Rattle.std.specs.Prelude.{◌≡◌, ◌≢◌, ◌⊎◌, ℕ, ◌<◌, List, [], length, Contains}
use Rattle.esto_term.specs.declared.term.Term.{Term}
use Rattle.esto_term.specs.declared.term.Term.TheVariants.{Plain}
use Rattle.esto_semantics.specs.Maps.{IsConstant}
use Rattle.esto_query.specs.declared.query.Name.{Name}
use Rattle.esto_views.specs.declared.plan.PlanAtom.{PlanAtom}

-- The term is a constant, or a variable that has a name.
abbrev pub IsNamed : List Name → Term → Type 0
IsNamed names term = IsConstant term ⊎ ((number : ℕ) × (term ≡ Plain number) × (number < length names))

-- The terms of a plan's atoms and of its head are constants or variables that have names, and its head is not empty.
pub record IsSoundPlan (atoms : List PlanAtom) (head : List Term) (names : List Name) : Type 0 where
  pub has_head : head ≢ []
  pub named_atoms : (atom : PlanAtom) → Contains atoms atom → (term : Term) → Contains atom.terms term → IsNamed names term
  pub named_head : (term : Term) → Contains head term → IsNamed names term
