use Rattle.std.proofs.Common.{◌∙◌}
use Rattle.esto_settings.proofs.SettingLemmas.{switch_absent, switch_there}
use Rattle.esto_settings.proofs.setting.switch_of.Goals as goal

pub returns-in-Some : goal.returns-in-Some
returns-in-Some c = c.as_bool.ensures ∙ switch_there c.get.result c.args.key.now c.args.table.now.entries c.get.ensures.value c.in-Some.value c.in-Some.is

pub returns-in-None : goal.returns-in-None
returns-in-None c = switch_absent c.get.result c.args.key.now c.args.table.now.entries c.get.ensures.value c.in-None.is
