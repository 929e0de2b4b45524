use Rattle.std.proofs.Common.{List, ap, drop, sym, ◌+◌, ◌∙◌}
use Rattle.toml.specs.View.{items_view}
use Rattle.esto_term.proofs.ListLemmas.{after}
use Rattle.esto_settings.specs.Settings.{entries_of}
use Rattle.esto_settings.specs.declared.setting.Field.{Field}
use Rattle.esto_settings.proofs.SettingLemmas.{entries_fail, entries_next}
use Rattle.esto_settings.proofs.setting.entries_of.Goals as goal

pub items-preserved : goal.items-preserved
items-preserved c =
    entries_next c.args.array.now c.items.item-index c.item-item.result c.items-test.true c.item-item.is _ c.items.entries c.items.invariant _
    c.in-Some.ensures
    ∙ ap (λ (entries : List (List Field)). after entries (entries_of (items_view (drop (c.items.item-index + 1) c.args.array.now))))
    (sym c.in_ok-push_entry-in-Some.ensures)

pub returns-in-None : goal.returns-in-None
returns-in-None c =
    entries_fail c.args.array.now c.items.item-index c.item-item.result c.items-test.true c.item-item.is _ c.items.entries c.items.invariant
    c.in-None.ensures
