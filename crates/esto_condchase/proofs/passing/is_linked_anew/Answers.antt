use Rattle.std.proofs.Common.{[], inl, inr, sym, subst, arith}
use Rattle.std.proofs.lemmas.Bool.{cases_order}
use Rattle.esto_condchase.specs.Ways.{IsPassedAt, meets}
use Rattle.esto_condchase.proofs.StepLemmas.{all_old}
use Rattle.esto_condchase.proofs.passing.is_linked_anew.Goals as goal

pub row-init : goal.row-init
row-init c its below = absurd (omega (arith, below))

pub row-preserved : goal.row-preserved
row-preserved c its below = elim (cases_order its c.row.at) [
  | inl same ↦ subst (IsPassedAt c.args.step.now.known.now (meets c.args.step.now.from.now c.args.step.now.terms.now c.args.step.now.to.now
      c.args.step.now.owns.now) c.args.step.now.terms.now c.args.step.now.owns.now c.args.floor [] (λ _. ⊥)) (sym same)
      (c.is_linked_at.ensures c.if-is_linked_at.false)
  | inr apart ↦ elim apart [ inl lower ↦ c.row.invariant its lower | inr above ↦ absurd (omega (arith, below, above)) ]
]

pub returns : goal.returns
returns c _ = all_old c.args.step.now.known.now (meets c.args.step.now.from.now c.args.step.now.terms.now c.args.step.now.to.now c.args.step.now.owns.now)
    c.args.step.now.terms.now c.args.step.now.owns.now c.args.floor c.row.at c.requires.rows c.row-test.false c.row.invariant
