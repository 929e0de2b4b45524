use Rattle.std.proofs.Common.{◌≡◌, ◌∙◌}
use Rattle.std.specs.Str.{IsValidUpTo, valid_up_to}
use Rattle.esto_stores.proofs.RowLemmas.{utf8_tested}
use Rattle.esto_stores.proofs.cells.is_text.Goals as goal

pub returns : goal.returns
returns c =
    c.is_ok.ensures.value
    ∙ utf8_tested c.from_utf8.result c.args.bytes.now (λ s. s.now ≡ c.args.bytes.now) (λ e. IsValidUpTo c.args.bytes.now (valid_up_to e))
    c.from_utf8.ensures.cases
