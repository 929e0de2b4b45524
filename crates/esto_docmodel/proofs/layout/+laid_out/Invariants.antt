use Rattle.std.proofs.Common.{drop}
use Rattle.std.specs.Prelude.{◌↔◌}
use Rattle.esto_docmodel.specs.Shapes.{entries_of}
use Rattle.esto_docmodel.proofs.LayoutLemmas.{LaidOutWithin}
use Rattle.esto_docmodel.proofs.layout.+laid_out.Given as goal

abbrev pub invariant-are_laid_out-entries : goal.invariant-are_laid_out-entries
invariant-are_laid_out-entries l =
    LaidOutWithin l.columns l.steps (entries_of (drop l.entry-index l.entries)) ↔ LaidOutWithin l.columns l.steps (entries_of l.entries)
