use Rattle.std.proofs.Common.{◌≡◌, ◌++◌}
use Rattle.toml.specs.View.{members_view, table_view}
use Rattle.esto_settings.specs.Settings.{entry_of}
use Rattle.esto_settings.proofs.setting.entry_of.Given as goal

abbrev pub invariant-fields : goal.invariant-fields
invariant-fields l = entry_of (table_view l.table) ≡ l.entry ++ entry_of (members_view l.key-iterator)
