use Rattle.std.proofs.Common.{sym, ◌∙◌, inl, inr}
use Rattle.std.proofs.lemmas.Bool.{false≢true}
use Rattle.esto_docmodel.proofs.LayoutLemmas.{have_paths, no_length}
use Rattle.esto_docmodel.proofs.layout.fit_together.Goals as goal

pub returns-then-not-is_empty : goal.returns-then-not-is_empty
returns-then-not-is_empty c = (
  λ e. inr (have_paths c.args.entries.now (no_length _ _ c.is_empty.ensures c.if-not-is_empty.true), c.are_fields.ensures.0 e),
  λ h. elim h [
    | inl one ↦ absurd (false≢true (sym c.if-is_one_item.false ∙ c.is_one_item.ensures.1 one))
    | inr both ↦ c.are_fields.ensures.1 both.1
  ],
)
