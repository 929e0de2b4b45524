use Rattle.std.proofs.Common.{Contains}
use Rattle.esto_term.specs.Kinds.{IsConstant}
use Rattle.esto_term.specs.declared.term.Term.{Term}
use Rattle.esto_term.proofs.ListLemmas.{HoldsBelow}
use Rattle.esto_fill.specs.Nodes.{Grow, column_of}
use Rattle.esto_fill.proofs.nodes.add_columns.Given as goal

-- the columns of the terms so far that are no constants are there
abbrev pub invariant-terms : goal.invariant-terms
invariant-terms l =
    Grow l.fn.columns l.columns
    × HoldsBelow (λ column (term : Term). ¬ (IsConstant term) → Contains l.columns (column_of l.fact.relation column)) l.fact.terms l.column
