use Rattle.std.proofs.Common.{◌++◌, inl, refl, sym, subst, arith}
use Rattle.std.proofs.lemmas.Bool.Decides.{nat_tests}
use Rattle.std.proofs.lemmas.Result.{on_ok_weaker}
use Rattle.esto_chase_laws.specs.Worlds.{AreOfCount}
use Rattle.esto_condchase.specs.Ways.{IsTold, meets}
use Rattle.esto_known.specs.KeptWays.{AreCounted}
use Rattle.esto_condchase.proofs.StepLemmas.{grown_same, told_wider, passes_all, anew_end, floor_goes}
use Rattle.esto_condchase.proofs.steps.pass_within.Goals as goal

pub is_settled-requires-clause-counts : goal.is_settled-requires-clause-counts
is_settled-requires-clause-counts c = subst (λ n. AreOfCount n c.args.step.now.known.now) (sym c.requires.count) c.requires.counts

pub is_settled-requires-clause-counted : goal.is_settled-requires-clause-counted
is_settled-requires-clause-counted c = subst (λ n. AreCounted n c.args.kept.now) (sym c.requires.count) c.requires.counted

pub returns-then-is_settled-clause-grown : goal.returns-then-is_settled-clause-grown
returns-then-is_settled-clause-grown c = grown_same _ c.args.kept.now c.args.kept.now refl

pub returns-then-is_settled-clause-there : goal.returns-then-is_settled-clause-there
returns-then-is_settled-clause-there c set within passes =
    inl (told_wider _ _ _ _ _ c.args.product.now set (c.is_settled.ensures c.if-is_settled.true) within)

pub pass-requires-clause-product : goal.pass-requires-clause-product
pass-requires-clause-product c = c.requires.product

pub returns-then-floor-eq0-clause-grown : goal.returns-then-floor-eq0-clause-grown
returns-then-floor-eq0-clause-grown c = c.pass.ensures.grown

pub returns-then-floor-eq0-clause-there : goal.returns-then-floor-eq0-clause-there
returns-then-floor-eq0-clause-there c = on_ok_weaker c.pass.result (λ there set within passes. inl (there set within
    (passes_all c.args.step.now.known.now (meets c.args.step.now.from.now c.args.step.now.terms.now c.args.step.now.to.now c.args.step.now.owns.now)
    c.args.step.now.terms.now c.args.step.now.owns.now set _ passes))) c.pass.ensures.there

pub returns-then-floor-eq0-clause-counted : goal.returns-then-floor-eq0-clause-counted
returns-then-floor-eq0-clause-counted c = c.pass.ensures.counted

pub pass_anew-requires-clause-product : goal.pass_anew-requires-clause-product
pass_anew-requires-clause-product c = c.requires.product

pub returns-clause-grown : goal.returns-clause-grown
returns-clause-grown c = c.pass_anew.ensures.grown

pub returns-clause-there : goal.returns-clause-there
returns-clause-there c = on_ok_weaker c.pass_anew.result (λ there.
    floor_goes c.args.step.now.known.now (meets c.args.step.now.from.now c.args.step.now.terms.now c.args.step.now.to.now c.args.step.now.owns.now)
    c.args.step.now.terms.now c.args.step.now.owns.now c.args.floor c.args.product.now
    (IsTold c.args.step.now.known.now c.args.step.now.sides c.args.step.now.places.now c.pass_anew.new.kept
    (c.args.step.now.to.now ++ c.args.step.now.owns.now))
    (anew_end c.args.step.now.known.now (meets c.args.step.now.from.now c.args.step.now.terms.now c.args.step.now.to.now c.args.step.now.owns.now)
    c.args.step.now.terms.now c.args.step.now.owns.now c.args.floor c.args.product.now
    (IsTold c.args.step.now.known.now c.args.step.now.sides c.args.step.now.places.now c.pass_anew.new.kept
    (c.args.step.now.to.now ++ c.args.step.now.owns.now))
    c.requires.rows there) (let apart = c.if-floor-eq0.false in grind (arith, nat_tests, apart))) c.pass_anew.ensures.there

pub returns-clause-counted : goal.returns-clause-counted
returns-clause-counted c = c.pass_anew.ensures.counted
