use Rattle.std.proofs.Common.{sym, ◌∙◌}
use Rattle.std.proofs.lemmas.Bool.{false≢true}
use Rattle.toml.specs.Parse.{parse_document}
use Rattle.toml.specs.View.{table_view}
use Rattle.esto_settings.proofs.SettingLemmas.{none_some}
use Rattle.esto_settings.proofs.setting.read_toml.Goals as goal

pub returns-in_ok-document_of-in-Ok-clause-document : goal.returns-in_ok-document_of-in-Ok-clause-document
returns-in_ok-document_of-in-Ok-clause-document c = (table_view c.in-Ok.table, c.in-Ok.ensures.ok, c.in_ok-document_of-in-Ok.ensures)

pub returns-in-Err-2-clause-error : goal.returns-in-Err-2-clause-error
returns-in-Err-2-clause-error c = λ pairs table.
    none_some (parse_document c.args.bytes.now) pairs
    (c.in-Err.ensures.refused (λ memory. false≢true (sym c.if-is_memory.false ∙ c.is_memory.ensures.1 memory)) table.0) table.1
