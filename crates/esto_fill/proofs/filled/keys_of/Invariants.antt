use Rattle.std.proofs.Common.{◌≡◌, None}
use Rattle.esto_stores.specs.KeyText.{row_fault}
use Rattle.esto_term.proofs.ListLemmas.{HoldsBelow}
use Rattle.esto_fill.proofs.filled.keys_of.Given as goal

-- keys can hold the rows so far
abbrev pub invariant-rows : goal.invariant-rows
invariant-rows l = HoldsBelow (λ _ row. row_fault row ≡ None) l.row-items l.row-index
