use Rattle.std.proofs.Common.{take}
use Rattle.esto_rows.specs.Wanted.{TakesIn}
use Rattle.esto_rows.proofs.code_set.CodeSet.add_all.Given as goal

-- those so far have come
abbrev pub invariant-codes : goal.invariant-codes
invariant-codes l = TakesIn (take l.code-index l.codes) l.initial.self l.self
