use Rattle.std.proofs.Common.{ℕ, ◌+◌, inl, inr, arith, subst, sym}
use Rattle.esto_constraint.specs.Constraints.{rule_of}
use Rattle.esto_chase_laws.specs.WorldMatches.{taken}
use Rattle.esto_derive.specs.Placing.{Makes}
use Rattle.esto_derive.proofs.MarkLemmas.{same_or_later}
use Rattle.esto_derive.proofs.placing.place_in_head.Goals as goal

pub places-preserved : goal.places-preserved
places-preserved c = λ at within made. elim (same_or_later at c.places.at (omega (arith, within))) [
  | inl same ↦ (let told = c.in_ok-makes.ensures.1
      (subst (λ (it : ℕ). Makes (it + 1) c.args.number (rule_of c.args.rule.now) (taken c.args.from.now c.args.to.now) c.args.claim.now) (sym same) made) in
      let not_told = c.if-branch.false in cc)
  | inr later ↦ c.places.invariant at (omega (arith, later)) made
]

pub unreachable-requires : goal.unreachable-requires
unreachable-requires c =
    c.places.invariant c.requires.made.0 (omega (arith, c.requires.made.1, c.places-test.false)) c.requires.made.2
