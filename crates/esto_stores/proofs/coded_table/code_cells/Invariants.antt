use Rattle.std.proofs.Common.{drop}
use Rattle.csv.specs.Records.{fields_of}
use Rattle.esto_stores.specs.Table.{cells_at}
use Rattle.esto_stores.proofs.CodedLemmas.{HasCells}
use Rattle.esto_stores.proofs.coded_table.code_cells.Given as goal

abbrev pub invariant-places : goal.invariant-places
invariant-places l = HasCells (cells_at l.places (fields_of l.cells)) (cells_at (drop l.place-index l.places) (fields_of l.cells)) l.initial.codes l.codes l.row
