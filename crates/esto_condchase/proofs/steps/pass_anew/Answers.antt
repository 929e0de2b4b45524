use Rattle.std.proofs.Common.{◌++◌, inl, inr, refl, sym, subst, arith}
use Rattle.std.proofs.lemmas.Bool.{cases_order}
use Rattle.esto_condchase.specs.Ways.{ComesBy, IsTold, IsPassedAt, meets}
use Rattle.esto_condchase.proofs.StepLemmas.{grown_same, grown_then, told_kept, passed_kept}
use Rattle.esto_condchase.proofs.steps.pass_anew.Goals as goal

pub row-init : goal.row-init
row-init c = record {
  grown = grown_same _ c.args.kept.now c.args.kept.now refl;
  there = λ its below. absurd (omega (arith, below));
  counted = c.requires.counted;
}

pub row-preserved : goal.row-preserved
row-preserved c = record {
  grown = grown_then (ComesBy c.args.step.now.known.now c.args.step.now.from.now c.args.step.now.terms.now c.args.before.now c.args.place
      c.args.step.now.owns.now) c.args.kept.now c.row.kept c.pass_at.new.kept c.row.invariant.grown c.in_ok-pass_at.ensures.grown;
  there = λ its below. elim (cases_order its c.row.at) [
    | inl same ↦ subst (IsPassedAt c.args.step.now.known.now (meets c.args.step.now.from.now c.args.step.now.terms.now c.args.step.now.to.now
        c.args.step.now.owns.now) c.args.step.now.terms.now
        c.args.step.now.owns.now c.args.floor c.args.product.now (IsTold c.args.step.now.known.now c.args.step.now.sides c.args.step.now.places.now
        c.pass_at.new.kept (c.args.step.now.to.now ++ c.args.step.now.owns.now))) (sym same)
        c.in_ok-pass_at.ensures.there
    | inr apart ↦ elim apart [
      | inl lower ↦ passed_kept c.args.step.now.known.now (meets c.args.step.now.from.now c.args.step.now.terms.now c.args.step.now.to.now
          c.args.step.now.owns.now) c.args.step.now.terms.now c.args.step.now.owns.now its c.args.floor c.args.product.now
          (IsTold c.args.step.now.known.now c.args.step.now.sides c.args.step.now.places.now c.row.kept (c.args.step.now.to.now ++ c.args.step.now.owns.now))
          (IsTold c.args.step.now.known.now c.args.step.now.sides c.args.step.now.places.now c.pass_at.new.kept
          (c.args.step.now.to.now ++ c.args.step.now.owns.now))
          (λ set. told_kept c.args.step.now.known.now c.args.step.now.sides c.args.step.now.places.now c.row.kept c.pass_at.new.kept
          (c.args.step.now.to.now ++ c.args.step.now.owns.now) set c.in_ok-pass_at.ensures.grown.kept)
          (c.row.invariant.there its lower)
      | inr above ↦ absurd (omega (arith, below, above))
    ]
  ];
  counted = c.in_ok-pass_at.ensures.counted;
}

pub returns-clause-there : goal.returns-clause-there
returns-clause-there c at below = c.row.invariant.there at (let past = c.row-test.false in omega (arith, below, past))
