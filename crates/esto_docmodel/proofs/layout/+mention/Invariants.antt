use Rattle.std.proofs.Common.{drop}
use Rattle.std.specs.Prelude.{◌↔◌}
use Rattle.esto_term.specs.declared.term.Term.TheVariants.{Plain}
use Rattle.esto_docmodel.specs.Patterns.{Mentions}
use Rattle.esto_docmodel.specs.Shapes.{entries_of}
use Rattle.esto_docmodel.proofs.layout.+mention.Given as goal

abbrev pub invariant-is_mentioned-entries : goal.invariant-is_mentioned-entries
invariant-is_mentioned-entries l =
    Mentions (entries_of (drop l.entry-index l.entries)) (Plain l.variable) ↔ Mentions (entries_of l.entries) (Plain l.variable)
