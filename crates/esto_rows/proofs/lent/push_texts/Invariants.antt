use Rattle.std.proofs.Common.{take, map}
use Rattle.esto_rows.specs.Lent.{AddsTextsOf}
use Rattle.esto_rows.proofs.lent.push_texts.Given as goal

abbrev pub invariant-codes : goal.invariant-codes
invariant-codes l =
    AddsTextsOf l.codes (take l.code-index l.row) (map (λ text. text.now) l.initial.texts.items) (map (λ text. text.now) l.texts.items)
