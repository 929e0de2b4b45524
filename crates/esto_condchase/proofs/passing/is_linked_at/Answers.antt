use Rattle.std.proofs.Common.{[], ◌<◌, ap, refl, sym, subst, ◌∙◌}
use Rattle.esto_condchase.specs.Ways.{meets}
use Rattle.esto_condchase.proofs.StepLemmas.{passed_equal, passed_unlinked}
use Rattle.esto_condchase.proofs.passing.is_linked_at.Goals as goal

pub returns-then-equal : goal.returns-then-equal
returns-then-equal c _ = passed_equal c.args.step.now.known.now (meets c.args.step.now.from.now c.args.step.now.terms.now c.args.step.now.to.now
    c.args.step.now.owns.now) c.args.step.now.terms.now c.args.step.now.owns.now c.args.at c.args.floor [] (λ _. ⊥)
    c.index-step-at.result c.index-step-at-2.result c.met_first-goal.result.now c.requires.at (subst (λ n. c.args.at < n) c.requires.rows c.requires.at)
    c.index-step-at.is c.index-step-at-2.is (c.met_first-goal.ensures ∙ ap (meets c.args.step.now.from.now c.args.step.now.terms.now c.args.step.now.to.now
    c.args.step.now.owns.now) (sym c.index-step-at-2.is)) (c.index-step-at.is ∙ c.equal.ensures.0 c.if-equal.true)

pub returns : goal.returns
returns c told = passed_unlinked c.args.step.now.known.now (meets c.args.step.now.from.now c.args.step.now.terms.now c.args.step.now.to.now
    c.args.step.now.owns.now) c.args.step.now.terms.now c.args.step.now.owns.now c.args.at c.args.floor [] (λ _. ⊥)
    _ c.index-step-at.result _ c.index-step-at-2.result c.met_first-goal.result.now c.links_of.result.now c.requires.at
    (subst (λ n. c.args.at < n) c.requires.rows c.requires.at) refl refl c.met_first-goal.ensures c.links_of.ensures (c.has_later.ensures.old told)
