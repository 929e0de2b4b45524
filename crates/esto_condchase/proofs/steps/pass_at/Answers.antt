use Rattle.std.proofs.Common.{◌++◌, ◌<◌, refl, sym, ap, ◌∙◌, subst}
use Rattle.std.proofs.lemmas.Result.{on_ok_weaker}
use Rattle.esto_condchase.specs.Ways.{meets, IsTold}
use Rattle.esto_condchase.proofs.StepLemmas.{grown_same, passed_equal, passed_one}
use Rattle.esto_condchase.proofs.steps.pass_at.Goals as goal

pub returns-then-equal-clause-grown : goal.returns-then-equal-clause-grown
returns-then-equal-clause-grown c = grown_same _ c.args.kept.now c.args.kept.now refl

pub returns-then-equal-clause-there : goal.returns-then-equal-clause-there
returns-then-equal-clause-there c = passed_equal c.args.step.now.known.now (meets c.args.step.now.from.now c.args.step.now.terms.now c.args.step.now.to.now
    c.args.step.now.owns.now)
    c.args.step.now.terms.now c.args.step.now.owns.now c.args.at c.args.floor c.args.product.now _ c.index-step-at-2.result c.index-step-at.result
    c.met_first-goal.result.now c.requires.at (subst (λ n. c.args.at < n) c.requires.rows c.requires.at) c.index-step-at-2.is c.index-step-at.is
    (c.met_first-goal.ensures ∙ ap (meets c.args.step.now.from.now c.args.step.now.terms.now c.args.step.now.to.now c.args.step.now.owns.now)
    (sym c.index-step-at.is)) (c.index-step-at-2.is ∙ c.equal.ensures.0 c.if-equal.true)

pub returns-clause-grown : goal.returns-clause-grown
returns-clause-grown c = c.pass.ensures.grown

pub returns-clause-there : goal.returns-clause-there
returns-clause-there c = on_ok_weaker c.pass.result
    (passed_one c.args.step.now.known.now (meets c.args.step.now.from.now c.args.step.now.terms.now c.args.step.now.to.now c.args.step.now.owns.now)
    c.args.step.now.terms.now c.args.step.now.owns.now c.args.at c.args.floor c.args.product.now
    (IsTold c.args.step.now.known.now c.args.step.now.sides c.args.step.now.places.now c.pass.new.kept (c.args.step.now.to.now ++ c.args.step.now.owns.now)))
    c.pass.ensures.there

pub returns-clause-counted : goal.returns-clause-counted
returns-clause-counted c = c.pass.ensures.counted
