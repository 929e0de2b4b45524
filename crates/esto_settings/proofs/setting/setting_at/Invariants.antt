use Rattle.std.proofs.Common.{◌≡◌, drop}
use Rattle.esto_settings.specs.Settings.{setting_at}
use Rattle.esto_settings.proofs.setting.setting_at.Given as goal

abbrev pub invariant-fields : goal.invariant-fields
invariant-fields l = setting_at l.key l.entry ≡ setting_at l.key (drop l.field-index l.entry)
