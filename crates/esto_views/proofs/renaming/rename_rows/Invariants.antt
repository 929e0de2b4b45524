use Rattle.std.proofs.Common.{◌≡◌, map, take}
use Rattle.esto_views.specs.Renamings.{numbered, renamed_atom}
use Rattle.esto_views.proofs.renaming.rename_rows.Given as goal

abbrev pub invariant-rows : goal.invariant-rows
invariant-rows l = l.atoms ≡ map (renamed_atom (numbered 0 l.seen)) (take l.row-index l.rows)
