use Rattle.std.proofs.Common.{List, ℕ, ap, drop, sym, ◌+◌, ◌∙◌}
use Rattle.toml.specs.View.{items_view}
use Rattle.esto_term.proofs.ListLemmas.{after}
use Rattle.esto_settings.specs.Settings.{texts_of}
use Rattle.esto_settings.proofs.SettingLemmas.{texts_fail, texts_next}
use Rattle.esto_settings.proofs.setting.texts_of.Goals as goal

pub items-preserved : goal.items-preserved
items-preserved c =
    texts_next c.args.array.now c.items.item-index c.item-item.result c.items-test.true c.item-item.is _ c.items.texts c.items.invariant _ c.in-Some.ensures
    ∙ ap (λ (texts : List (List ℕ)). after texts (texts_of (items_view (drop (c.items.item-index + 1) c.args.array.now))))
    (sym c.in_ok-push_text-in-Some.ensures)

pub returns-in-None : goal.returns-in-None
returns-in-None c =
    texts_fail c.args.array.now c.items.item-index c.item-item.result c.items-test.true c.item-item.is _ c.items.texts c.items.invariant c.in-None.ensures
