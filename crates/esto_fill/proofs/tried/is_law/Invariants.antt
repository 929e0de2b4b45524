use Rattle.std.proofs.Common.{◌≡◌}
use Rattle.esto_constraint.specs.Constraints.{rule_of}
use Rattle.esto_constraint.specs.declared.rule.Constraint.{Constraint}
use Rattle.esto_term.proofs.ListLemmas.{HoldsBelow}
use Rattle.esto_fill.proofs.tried.is_law.Given as goal

-- the rule is none of the laws so far
abbrev pub invariant-laws : goal.invariant-laws
invariant-laws l = HoldsBelow (λ _ (law : Constraint). rule_of l.rule ≡ rule_of law → ⊥) l.laws l.law-index
