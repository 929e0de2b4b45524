use Rattle.std.proofs.Common.{ℕ, sym, ◌∙◌}
use Rattle.std.proofs.lemmas.Bool.{false≢true}
use Rattle.esto_term.specs.declared.term.Term.TheVariants.{Plain}
use Rattle.esto_docmodel.specs.Layouts.{StandsOnce}
use Rattle.esto_docmodel.specs.Shapes.{entries_of}
use Rattle.esto_docmodel.proofs.LayoutLemmas.{one_column_more}
use Rattle.esto_docmodel.proofs.layout.each_stands_once.Goals as goal

pub returns-then-not-stands_once : goal.returns-then-not-stands_once
returns-then-not-stands_once c = (
  λ e. absurd (false≢true e),
  λ each. absurd (false≢true (sym c.if-not-stands_once.true ∙ c.stands_once.ensures.1 (each c.columns.column c.columns-test.true))),
)

pub columns-preserved : goal.columns-preserved
columns-preserved c =
    one_column_more (λ (column : ℕ). StandsOnce (Plain column) (entries_of c.args.entries.now)) c.columns.column
    (c.stands_once.ensures.0 c.if-not-stands_once.false) c.columns.invariant
