use Rattle.std.proofs.Common.{◌≡◌, ◌+◌, ◌≤◌, drop}
use Rattle.csv.specs.Records.{fields_of}
use Rattle.esto_stores.specs.Table.{times_in}
use Rattle.esto_stores.proofs.header.count_name.Given as goal

abbrev pub invariant-cells : goal.invariant-cells
invariant-cells l =
    (l.count ≤ l.place)
    × (times_in (fields_of l.header) l.name ≡ l.count + times_in (drop l.place (fields_of l.header)) l.name)
