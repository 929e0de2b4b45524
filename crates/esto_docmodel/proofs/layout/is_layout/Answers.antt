use Rattle.std.proofs.Common.{sym, ◌∙◌, subst, List}
use Rattle.std.proofs.lemmas.Bool.{false≢true}
use Rattle.esto_docmodel.specs.Layouts.{IsLayout}
use Rattle.esto_docmodel.specs.Shapes.{entries_of}
use Rattle.esto_docmodel.specs.declared.pattern.Entry.{Entry}
use Rattle.std.specs.Prelude.{◌↔◌, IsTrue}
use Rattle.esto_docmodel.proofs.LayoutLemmas.{layout_told}
use Rattle.esto_docmodel.proofs.layout.is_layout.Goals.{then-fit_together, else-fit_together}
use Rattle.esto_docmodel.proofs.layout.is_layout.Goals as goal

pub returns-then-are_laid_out : goal.returns-then-are_laid_out
returns-then-are_laid_out c = elim c.if-fit_together.branch [
  | then-fit_together w ↦
      subst (λ (it : List Entry). IsTrue c.each_stands_once.result ↔ IsLayout c.args.columns (entries_of it)) c.items-entries.ensures
      (layout_told c.args.columns (entries_of c.items-entries.result.now) c.each_stands_once.result (c.fit_together.ensures.0 w.if-fit_together.true)
      (w.are_laid_out.ensures.0 (sym w.value-is ∙ c.if-are_laid_out.true)) c.each_stands_once.ensures)
  | else-fit_together w ↦ absurd (false≢true (sym w.if-fit_together.false ∙ (sym w.value-is ∙ c.if-are_laid_out.true)))
]
