use Rattle.std.proofs.Common.{take, map}
use Rattle.std.specs.List.{concat}
use Rattle.esto_columns.specs.Interned.{AreCodesOf}
use Rattle.esto_rows.proofs.lent.push_rows.Given as goal

abbrev pub invariant-rows : goal.invariant-rows
invariant-rows l = AreCodesOf l.codes (concat (take l.at l.rows.rows)) (map (λ text. text.now) l.texts.items)
