use Rattle.std.proofs.Common.{◌≡◌, ◌+◌, drop}
use Rattle.csv.specs.Records.{fields_of}
use Rattle.esto_stores.specs.Table.{place_in}
use Rattle.esto_stores.proofs.header.find_name.Given as goal

abbrev pub invariant-cells : goal.invariant-cells
invariant-cells l = place_in (fields_of l.header) l.name ≡ l.place + place_in (drop l.place (fields_of l.header)) l.name
