use Rattle.esto_term.proofs.ListLemmas.{HoldsBelow}
use Rattle.esto_steps.specs.Planned.{CanMeet}
use Rattle.esto_plan.proofs.planning.first_met.Given as goal

abbrev pub invariant-patterns : goal.invariant-patterns
invariant-patterns l = HoldsBelow (λ _ pattern. ¬ (CanMeet l.bound l.terms pattern)) l.access-items l.number
