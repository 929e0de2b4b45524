use Rattle.std.proofs.Common.{sym, ◌∙◌}
use Rattle.std.proofs.lemmas.Bool.{false≢true}
use Rattle.esto_docmodel.proofs.LayoutLemmas.{one_alone, no_length}
use Rattle.esto_docmodel.proofs.layout.is_one_item.Goals as goal

pub returns-else-is_empty : goal.returns-else-is_empty
returns-else-is_empty c = (
  λ e. absurd (false≢true (sym c.if-is_empty.false ∙ e)),
  λ h. absurd (no_length _ _ c.is_empty.ensures c.if-is_empty.false
      (one_alone c.args.entries.now c.in-Some.rest.now c.in-Some.entry.now c.in-Some.ensures.cases.0 h)),
)
