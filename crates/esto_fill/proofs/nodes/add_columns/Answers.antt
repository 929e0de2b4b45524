use Rattle.std.proofs.Common.{Contains, arith}
use Rattle.esto_term.specs.Kinds.{IsConstant}
use Rattle.esto_term.specs.declared.term.Term.{Term}
use Rattle.esto_term.proofs.ListLemmas.{holds_all_in, holds_more_in}
use Rattle.esto_fill.specs.Nodes.{column_of}
use Rattle.esto_fill.proofs.nodes.add_columns.Goals as goal

pub terms-init : goal.terms-init
terms-init c = ((λ it inside. inside), λ column term below at. absurd (omega (arith, below)))

pub terms-preserved : goal.terms-preserved
terms-preserved c =
    let added = c.in_ok-add_column.ensures in (
      (λ it inside. added.0 it (c.terms.invariant.0 it inside)),
      holds_more_in (λ column (term : Term). ¬ (IsConstant term) → Contains c.add_column.new.columns (column_of c.args.fact.now.relation column))
          c.args.fact.now.terms _ c.items-term-items.ensures _ _ c.terms-test.true c.term-item.is
          (λ column term below at apart. added.0 _ (c.terms.invariant.1 column term below at apart)) added.1,
    )

pub returns : goal.returns
returns c = (
  c.terms.invariant.0,
  λ column (term, at, apart).
      holds_all_in (λ number (its : Term). ¬ (IsConstant its) → Contains c.terms.columns (column_of c.args.fact.now.relation number))
      c.args.fact.now.terms _ c.items-term-items.ensures _ c.terms-test.false c.terms.invariant.1 column term at apart,
)
