use Rattle.std.proofs.Common.{◌∙◌, arith}
use Rattle.std.proofs.lemmas.Str.{IsUtf8-string_bytes}
use Rattle.serde_json.specs.View.{view}
use Rattle.esto_docs.proofs.TextLemmas.{no_float}
use Rattle.esto_docs.proofs.WriteLemmas.{read_back}
use Rattle.esto_docs.proofs.write.document_text.Goals as goal

pub returns-in-Ok-clause-text : goal.returns-in-Ok-clause-text
returns-in-Ok-clause-text c = c.from_string.ensures ∙ c.in-Ok.ensures.text (no_float (view c.args.document.now) c.requires.texts)

pub returns-in-Ok-clause-read : goal.returns-in-Ok-clause-read
returns-in-Ok-clause-read c =
    read_back (view c.args.document.now) _ (c.in-Ok.ensures.text (no_float (view c.args.document.now) c.requires.texts))
    (c.in-Ok.ensures.reads_back (omega (arith, c.requires.shallow))) (IsUtf8-string_bytes c.in-Ok.text)
