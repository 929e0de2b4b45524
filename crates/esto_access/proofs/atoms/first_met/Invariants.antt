use Rattle.std.proofs.Common.{Contains}
use Rattle.esto_semantics.specs.Access.{MeetsPattern}
use Rattle.esto_views.specs.Plans.{fact_of, plan_query}
use Rattle.esto_access.proofs.atoms.first_met.Given as goal
use Rattle.esto_term.proofs.ListLemmas.{HoldsBelow}

abbrev pub invariant-patterns : goal.invariant-patterns
invariant-patterns l = HoldsBelow (λ _ pattern. MeetsPattern (plan_query l.plan).body (Contains l.earlier) (fact_of l.atom) pattern → ⊥) l.patterns l.place
