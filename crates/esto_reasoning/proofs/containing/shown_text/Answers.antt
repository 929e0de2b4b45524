use Rattle.std.proofs.Common.{◌∙◌}
use Rattle.std.proofs.lemmas.Result.{IfOk-weaker}
use Rattle.esto_query.specs.Schemas.{names_of}
use Rattle.esto_reasoning.specs.Texts.{no_text}
use Rattle.esto_reasoning.proofs.containing.shown_text.Goals as goal

pub returns : goal.returns
returns c = IfOk-weaker c.no_text.result _ _ (λ text is. (
  c.in_ok-plan.plan,
  c.in_ok-plan.ensures,
  is ∙ (λ i. no_text (names_of c.args.catalogue.now.schema) c.in_ok-plan.plan.names (c.items.ensures i)
      ((c.items-2.ensures ∙ c.in_ok-renamed.ensures) i)),
)) c.no_text.ensures
