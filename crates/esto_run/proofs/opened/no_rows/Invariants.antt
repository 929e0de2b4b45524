use Rattle.std.proofs.Common.{◌≡◌, map, take}
use Rattle.esto_run.specs.Stored.{stored_none}
use Rattle.esto_run.proofs.opened.no_rows.Given as goal

abbrev pub invariant-fragments : goal.invariant-fragments
invariant-fragments l = l.stored ≡ map stored_none (take l.fragment-index l.fragment-items)
