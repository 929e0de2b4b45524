use Rattle.std.proofs.Common.{◌≡◌, take}
use Rattle.esto_term.proofs.list.ListReplicate.copy.Given as goal

-- the items so far are copied
abbrev pub invariant-items : goal.invariant-items
invariant-items g l = l.copied ≡ take l.item-index l.item-items
