use Rattle.std.proofs.Common.{◌≡◌, take}
use Rattle.std.specs.List.{flat_map}
use Rattle.esto_views.proofs.reading.terms_read.Given as goal

abbrev pub invariant-rows : goal.invariant-rows
invariant-rows l = l.terms ≡ flat_map (λ row. row.terms) (take l.row-index l.rows)
