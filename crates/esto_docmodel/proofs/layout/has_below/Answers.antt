use Rattle.std.proofs.Common.{sym, ◌∙◌, refl}
use Rattle.std.proofs.lemmas.Bool.{false≢true}
use Rattle.esto_docmodel.proofs.LayoutLemmas.{steps_parts, one_more, one_found}
use Rattle.esto_docmodel.proofs.layout.has_below.Goals as goal

pub steps-preserved : goal.steps-preserved
steps-preserved c =
    one_more (steps_parts c.steps.left.now c.in-Some.rest.now c.in-Some.step.now c.in-Some.ensures.cases.0)
    (λ is. false≢true (sym c.if-leads_inside.false ∙ c.leads_inside.ensures.1 is)) c.steps.invariant

pub returns-then-leads_inside : goal.returns-then-leads_inside
returns-then-leads_inside c = (
  λ e. one_found (steps_parts c.steps.left.now c.in-Some.rest.now c.in-Some.step.now c.in-Some.ensures.cases.0)
      (c.leads_inside.ensures.0 c.if-leads_inside.true) c.steps.invariant,
  λ h. refl,
)
