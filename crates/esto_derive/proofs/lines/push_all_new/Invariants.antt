use Rattle.std.proofs.Common.{take}
use Rattle.esto_derive.specs.Writing.{AddsNew}
use Rattle.esto_derive.proofs.lines.push_all_new.Given as goal

abbrev pub invariant-more : goal.invariant-more
invariant-more l = AddsNew l.fn.numbers (take l.number-index l.more) l.numbers
