use Rattle.std.proofs.Common.{string_bytes}
use Rattle.std.proofs.lemmas.Result.{IfOk-weaker}
use Rattle.std.proofs.lemmas.Str.{IsUtf8-string_bytes}
use Rattle.serde_json.specs.Data.{Data}
use Rattle.serde_json.specs.View.{view}
use Rattle.esto_docs.proofs.TextLemmas.{no_float}
use Rattle.esto_docs.proofs.WriteLemmas.{array_texts, array_written}
use Rattle.esto_docs.proofs.write.array_text.Goals as goal

pub returns-in-Ok : goal.returns-in-Ok
returns-in-Ok c =
    let d : Data = view c.args.array.now in
    IfOk-weaker c.ended.result _ _ (λ text more es rows all is.
    let plain = array_texts es all rows d is in
    array_written es all rows d (string_bytes c.in-Ok.line) text is (c.in-Ok.ensures.text (no_float d plain.0)) (c.in-Ok.ensures.reads_back plain.1)
    (IsUtf8-string_bytes c.in-Ok.line) more) c.ended.ensures
