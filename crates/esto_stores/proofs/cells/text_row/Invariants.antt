use Rattle.std.proofs.Common.{◌≡◌, take, drop}
use Rattle.csv.specs.Records.{fields_of}
use Rattle.esto_stores.specs.Rows.{are_texts}
use Rattle.esto_stores.specs.Table.{cells_at}
use Rattle.esto_stores.proofs.cells.text_row.Given as goal

abbrev pub invariant-places : goal.invariant-places
invariant-places l =
    (l.row ≡ cells_at (take l.place-index l.places) (fields_of l.cells))
    × (are_texts (cells_at l.places (fields_of l.cells)) ≡ are_texts (cells_at (drop l.place-index l.places) (fields_of l.cells)))
