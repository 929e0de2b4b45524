use Rattle.std.proofs.Common.{ap, ◌∙◌}
use Rattle.std.proofs.lemmas.Result.{IfOk-weaker}
use Rattle.toml.specs.View.{items_view}
use Rattle.esto_settings.specs.Settings.{entries_of}
use Rattle.esto_settings.proofs.SettingLemmas.{section_absent, section_entries, section_other}
use Rattle.esto_settings.proofs.setting.section_of.Goals as goal

pub returns-in_default : goal.returns-in_default
returns-in_default c = section_absent c.get.result c.args.key.now c.args.table.now.entries c.get.ensures.value c.new.result c.in_default.is c.new.ensures

pub returns-in-Some-as_array : goal.returns-in-Some-as_array
returns-in-Some-as_array c =
    let array = section_entries c.get.result c.args.key.now c.args.table.now.entries c.get.ensures.value c.in-Some.value c.in-Some.is
    (items_view c.in-Some-as_array.array.now.items) c.in-Some-as_array.ensures in
    IfOk-weaker c.entries_of.result _ _ (λ it is. is ∙ (ap (λ items. entries_of (items_view items)) c.as_slice.ensures.value ∙ array)) c.entries_of.ensures

pub returns-in-None : goal.returns-in-None
returns-in-None c = section_other c.get.result c.args.key.now c.args.table.now.entries c.get.ensures.value c.in-Some.value c.in-Some.is c.in-None.ensures
