use Rattle.std.proofs.Common.{◌≡◌, drop}
use Rattle.csv.specs.Records.{fields_of}
use Rattle.esto_stores.specs.Rows.{are_texts}
use Rattle.esto_stores.proofs.cells.all_are_texts.Given as goal

abbrev pub invariant-cells : goal.invariant-cells
invariant-cells l = are_texts (fields_of l.cells) ≡ are_texts (drop l.place (fields_of l.cells))
