use Rattle.std.proofs.Common.{◌≡◌, ◌&&◌, false, take}
use Rattle.std.specs.Prelude.{◌==◌}
use Rattle.std.specs.List.{list_any}
use Rattle.esto_fill.specs.declared.nodes.Column.{Column}
use Rattle.esto_fill.proofs.nodes.is_among.Given as goal

-- the column is none of those so far
abbrev pub invariant-columns : goal.invariant-columns
invariant-columns l = list_any (λ (it : Column). (it.relation == l.relation) && (it.column == l.column)) (take l.it-index l.columns) ≡ false
