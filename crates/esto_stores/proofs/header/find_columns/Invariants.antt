use Rattle.std.proofs.Common.{◌≡◌, ◌+◌, map, take, drop}
use Rattle.csv.specs.Records.{fields_of}
use Rattle.esto_stores.specs.Table.{place_in, header_fault}
use Rattle.esto_stores.proofs.header.find_columns.Given as goal

abbrev pub invariant-columns : goal.invariant-columns
invariant-columns l =
    (l.places ≡ map (place_in (fields_of l.header)) (take l.column-index l.columns))
    × (header_fault (fields_of l.header) 1 l.columns ≡ header_fault (fields_of l.header) (l.column-index + 1) (drop l.column-index l.columns))
