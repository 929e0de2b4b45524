use Rattle.std.proofs.Common.{◌++◌, inl, ap, ◌∙◌, sym, refl, subst}
use Rattle.std.proofs.lemmas.Result.{on_ok_weaker}
use Rattle.esto_condchase.specs.Ways.{IsTold}
use Rattle.esto_known.specs.declared.way.Way.{Way}
use Rattle.esto_condchase.proofs.StepLemmas.{grown_same, grown_push, way_pushed}
use Rattle.esto_condchase.proofs.steps.keep.Goals as goal

pub returns-then-is_settled-clause-grown : goal.returns-then-is_settled-clause-grown
returns-then-is_settled-clause-grown c = grown_same _ c.args.kept.now c.args.kept.now refl

pub returns-then-is_settled-clause-there : goal.returns-then-is_settled-clause-there
returns-then-is_settled-clause-there c = c.is_settled.ensures c.if-is_settled.true

pub returns-clause-grown : goal.returns-clause-grown
returns-clause-grown c = on_ok_weaker c.push.result (λ grown. grown_push _ c.args.kept.now _ c.in_ok-way.way grown c.in_ok-way.ensures) c.push.ensures

pub returns-clause-there : goal.returns-clause-there
returns-clause-there c = on_ok_weaker c.push.result (λ grown. subst (IsTold c.args.step.now.known.now c.args.step.now.sides c.args.step.now.places.now _
    (c.args.step.now.to.now ++ c.args.step.now.owns.now))
    (ap (λ (it : Way). it.product) c.in_ok-way.ensures)
    (inl (way_pushed c.args.step.now.places.now c.args.kept.now _ c.in_ok-way.way (c.args.step.now.to.now ++ c.args.step.now.owns.now) grown
    (ap (λ (it : Way). it.to) c.in_ok-way.ensures ∙ ap (λ it. it ++ c.args.step.now.owns.now) (sym c.requires.to))))) c.push.ensures
