use Rattle.std.proofs.Common.{◌≡◌, map, take}
use Rattle.esto_views.specs.Renamings.{numbered}
use Rattle.esto_views.proofs.renaming.rename_row.Given as goal

abbrev pub invariant-terms : goal.invariant-terms
invariant-terms l = l.renamed ≡ map (numbered 0 l.seen) (take l.term-index l.row)
