use Rattle.std.proofs.Common.{take}
use Rattle.esto_columns.specs.Interned.{Grows, AreCodesOf}
use Rattle.esto_columns.proofs.coding.code_row.Given as goal

abbrev pub invariant-texts : goal.invariant-texts
invariant-texts l = (AreCodesOf l.codes l.coded (take l.text-index l.text-items)) × Grows l.initial.codes l.codes
