use Rattle.std.proofs.Common.{ℕ, ◌<◌}
use Rattle.esto_term.specs.declared.term.Term.TheVariants.{Plain}
use Rattle.esto_docmodel.specs.Layouts.{StandsOnce}
use Rattle.esto_docmodel.specs.Shapes.{entries_of}
use Rattle.esto_docmodel.proofs.layout.each_stands_once.Given as goal

abbrev pub invariant-columns : goal.invariant-columns
invariant-columns l = (earlier : ℕ) → earlier < l.column → StandsOnce (Plain earlier) (entries_of l.entries)
