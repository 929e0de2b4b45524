use Rattle.std.proofs.Common.{ℕ, ◌<◌, ◌≡◌, slice_get, get_or, Some, Contains}
use Rattle.esto_term.specs.declared.term.Term.{Term}
use Rattle.esto_semantics.specs.declared.fact.Fact.{Fact}
use Rattle.esto_views.specs.Plans.{plan_query}
use Rattle.esto_access.proofs.atoms.is_bound.Given as goal

abbrev pub invariant-numbers : goal.invariant-numbers
invariant-numbers l = (k : ℕ) → k < l.number-index
    → ¬ ((atom : Fact Term) × (slice_get (plan_query l.plan).body (get_or l.earlier k 0) ≡ Some atom) × Contains atom.terms l.term)
