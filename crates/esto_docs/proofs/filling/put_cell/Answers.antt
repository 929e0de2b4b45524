use Rattle.std.proofs.Common.{◌∙◌, ℕ, ap, sym, slice_set}
use Rattle.std.proofs.lemmas.List.{map-set}
use Rattle.serde_json.specs.View.{view}
use Rattle.esto_docs.specs.Filling.{value_text, cells_of}
use Rattle.esto_docs.proofs.RowLemmas.{same_number}
use Rattle.esto_docs.proofs.filling.put_cell.Goals as goal

pub returns-in-Plain-clause-cell : goal.returns-in-Plain-clause-cell
returns-in-Plain-clause-cell c column is =
    map-set (λ v. value_text (view v.now)) c.args.cells.now c.in-Plain.column c.args.value
    ∙ ap (λ (k : ℕ). slice_set (cells_of c.args.cells.now) k (value_text (view c.args.value.now))) (same_number _ _ (sym c.in-Plain.is ∙ is))
