use Rattle.std.proofs.Common.{sym, ◌∙◌}
use Rattle.std.proofs.lemmas.Bool.{false≢true}
use Rattle.esto_mapping.proofs.ColumnLemmas.{distinct_more, distinct_stop}
use Rattle.esto_mapping.proofs.columns.are_distinct.Goals as goal

pub returns-then-has_text : goal.returns-then-has_text
returns-then-has_text c = (
  λ yes. absurd (false≢true yes),
  λ apart. absurd (distinct_stop c.args.texts.now c.texts.rest.now c.in-Some.others.now c.in-Some.first.now c.in-Some.ensures.cases.0 c.texts.invariant
      (c.has_text.ensures.0 c.if-has_text.true) apart),
)

pub texts-preserved : goal.texts-preserved
texts-preserved c =
    distinct_more c.args.texts.now c.texts.rest.now c.in-Some.others.now c.in-Some.first.now c.in-Some.ensures.cases.0 c.texts.invariant
    (λ inside. false≢true (sym c.if-has_text.false ∙ c.has_text.ensures.1 inside))
