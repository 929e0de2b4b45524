use Rattle.std.proofs.Common.{drop}
use Rattle.std.specs.Prelude.{◌↔◌}
use Rattle.esto_term.specs.declared.term.Term.TheVariants.{Plain}
use Rattle.esto_docmodel.specs.Layouts.{StandsOnce}
use Rattle.esto_docmodel.specs.Shapes.{entries_of}
use Rattle.esto_docmodel.proofs.layout.+once.Given as goal

abbrev pub invariant-stands_once-entries : goal.invariant-stands_once-entries
invariant-stands_once-entries l =
    StandsOnce (Plain l.variable) (entries_of (drop l.place l.entries)) ↔ StandsOnce (Plain l.variable) (entries_of l.entries)
