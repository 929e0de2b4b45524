use Rattle.std.proofs.Common.{◌++◌, Contains, refl, sym, subst, ◌∙◌}
use Rattle.std.proofs.lemmas.Bool.{false≢true}
use Rattle.esto_condchase.specs.Ways.{IsTold, meets}
use Rattle.esto_condchase.proofs.StepLemmas.{longer_same, longer_items, longer_at_term}
use Rattle.esto_condchase.proofs.passing.pass_term.Goals as goal

pub all_longer-requires-clause-apart : goal.all_longer-requires-clause-apart
all_longer-requires-clause-apart c is = false≢true (sym c.if-equal.false ∙ c.equal.ensures.1 is)

pub all_longer-requires-clause-given : goal.all_longer-requires-clause-given
all_longer-requires-clause-given c support inside = c.requires.given support (subst (λ it. Contains it support) c.items.ensures inside)

pub returns-then-equal : goal.returns-then-equal
returns-then-equal c own term at_own at_term =
    longer_at_term c.args.step.now.known.now (meets c.args.step.now.from.now c.args.step.now.terms.now c.args.step.now.to.now c.args.step.now.owns.now)
    c.args.step.now.terms.now c.args.step.now.owns.now c.args.index c.args.floor _ c.args.supports.now c.args.supports.now
    _ c.index-step-index.result _ c.index-step-index-2.result c.met_first-goal.result.now own term at_own at_term c.requires.owns c.requires.terms
    refl refl c.met_first-goal.ensures
    (longer_same c.args.step.now.known.now _ c.met_first-goal.result.now c.args.floor _ c.args.supports.now c.args.supports.now
    (c.equal.ensures.0 c.if-equal.true) refl)

pub returns : goal.returns
returns c own term at_own at_term =
    longer_at_term c.args.step.now.known.now (meets c.args.step.now.from.now c.args.step.now.terms.now c.args.step.now.to.now c.args.step.now.owns.now)
    c.args.step.now.terms.now c.args.step.now.owns.now c.args.index c.args.floor
    (IsTold c.args.step.now.known.now c.args.step.now.sides c.args.step.now.places.now c.args.kept.now (c.args.step.now.to.now ++ c.args.step.now.owns.now))
    c.args.supports.now _
    _ c.index-step-index.result _ c.index-step-index-2.result c.met_first-goal.result.now own term at_own at_term c.requires.owns c.requires.terms
    refl refl c.met_first-goal.ensures
    (longer_items c.args.step.now.known.now _ c.met_first-goal.result.now c.args.floor
    (IsTold c.args.step.now.known.now c.args.step.now.sides c.args.step.now.places.now c.args.kept.now (c.args.step.now.to.now ++ c.args.step.now.owns.now))
    c.args.supports.now c.items.result.now _ c.items.ensures c.in_ok-supports.ensures)
