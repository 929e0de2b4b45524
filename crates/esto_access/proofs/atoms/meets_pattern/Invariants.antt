use Rattle.std.proofs.Common.{Contains}
use Rattle.esto_semantics.specs.Access.{IsInput, IsBound}
use Rattle.esto_views.specs.Plans.{plan_query}
use Rattle.esto_access.proofs.atoms.meets_pattern.Given as goal
use Rattle.esto_term.proofs.ListLemmas.{HoldsBelow}

abbrev pub invariant-columns : goal.invariant-columns
invariant-columns l = HoldsBelow (λ column term. IsInput l.pattern column → IsBound (plan_query l.plan).body (Contains l.earlier) term) l.atom.terms l.column
