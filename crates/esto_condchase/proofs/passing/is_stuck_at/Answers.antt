use Rattle.std.proofs.Common.{arith, refl, subst, sym, ◌<◌, ◌∙◌}
use Rattle.std.proofs.lemmas.Bool.{false≢true}
use Rattle.std.proofs.lemmas.Bool.Decides.{nat_tests}
use Rattle.esto_condchase.specs.Ways.{meets}
use Rattle.esto_condchase.proofs.StepLemmas.{never_passed}
use Rattle.esto_condchase.proofs.passing.is_stuck_at.Goals as goal

pub returns : goal.returns
returns c told = never_passed c.args.step.now.known.now (meets c.args.step.now.from.now c.args.step.now.terms.now c.args.step.now.to.now
    c.args.step.now.owns.now)
    c.args.step.now.terms.now c.args.step.now.owns.now c.args.at _ c.index-step-at.result _ c.index-step-at-2.result c.met_first-goal.result.now
    c.links_of.result.now c.requires.at (subst (λ n. c.args.at < n) c.requires.rows c.requires.at) refl refl c.met_first-goal.ensures
    (λ is. false≢true (sym c.if-equal.false ∙ c.equal.ensures.1 is)) c.links_of.ensures
    (let empty = c.is_empty.ensures in grind (arith, nat_tests, empty, told))
