use Rattle.std.proofs.Common.{◌+◌, drop}
use Rattle.csv.specs.Records.{fields_of}
use Rattle.esto_stores.specs.Table.{cells_at}
use Rattle.esto_stores.proofs.CodedLemmas.{cells_go, place_next}
use Rattle.esto_stores.proofs.coded_table.code_cells.Goals as goal

pub places-preserved : goal.places-preserved
places-preserved c =
    let cells = fields_of c.args.cells.now in
    cells_go (cells_at c.args.places.now cells) (cells_at (drop c.places.place-index c.args.places.now) cells)
    (cells_at (drop (c.places.place-index + 1) c.args.places.now) cells)
    c.args.codes.now c.places.codes c.push_code.new.codes c.places.row c.push_code.new.row c.cell_at.result.now c.places.invariant
    (place_next c.args.places.now cells c.places.place-index c.cell_at.result.now c.places-test.true c.cell_at.ensures)
    c.in_ok-push_code.ensures.put c.push_code.ensures.grown
