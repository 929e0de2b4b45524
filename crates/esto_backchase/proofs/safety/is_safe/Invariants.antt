use Rattle.std.proofs.Common.{map}
use Rattle.esto_semantics.specs.Access.{IsBound}
use Rattle.esto_term.specs.Sets.{Has}
use Rattle.esto_views.specs.Plans.{fact_of}
use Rattle.esto_backchase.proofs.safety.is_safe.Given as goal
use Rattle.esto_term.proofs.ListLemmas.{HoldsBelow}

abbrev pub invariant-head : goal.invariant-head
invariant-head l = HoldsBelow (λ _ term. IsBound (map fact_of l.plan.atoms) (Has l.set) term) l.term-items l.term-index
