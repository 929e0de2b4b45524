use Rattle.std.proofs.Common.{◌∙◌, ◌∷◌, ◌++◌, [], List, ℕ, sym, ap}
use Rattle.std.proofs.lemmas.Result.{err_from_is_err_and}
use Rattle.csv.specs.Records.{fields_of}
use Rattle.esto_stores.specs.Table.{cells_at}
use Rattle.esto_stores.proofs.RowLemmas.{places_go, places_stop, places_more, row_error}
use Rattle.esto_stores.proofs.cells.text_row.Goals as goal

pub places-preserved : goal.places-preserved
places-preserved c =
    let cells = fields_of c.args.cells.now in
    let more = places_more c.args.places.now cells c.places.place-index c.cell_at.result.now c.places-test.true c.cell_at.ensures in
    let text = places_go c.args.places.now cells c.places.place-index c.cell_at.result.now c.places-test.true c.cell_at.ensures c.in_ok-push_cell.ensures.1 in (
      c.in_ok-push_cell.ensures.0 ∙ ap (λ (r : List (List ℕ)). r ++ c.cell_at.result.now ∷ []) c.places.invariant.0 ∙ sym more,
      c.places.invariant.1 ∙ text,
    )

pub returns-in_err-push_cell : goal.returns-in_err-push_cell
returns-in_err-push_cell c =
    let cells = fields_of c.args.cells.now in
    let p = err_from_is_err_and c.from_residual.result c.from_residual.ensures.1 in
    rw (p.1, p.2) (row_error (cells_at c.args.places.now cells) c.places.row c.push_cell.new.row _ _ c.in_err-push_cell.ensures
    (λ n. c.places.invariant.1 ∙ places_stop c.args.places.now cells c.places.place-index _ c.places-test.true c.cell_at.ensures n))
