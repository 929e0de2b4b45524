use Rattle.std.proofs.Common.{◌≡◌, drop}
use Rattle.toml.specs.View.{items_view}
use Rattle.esto_term.proofs.ListLemmas.{after}
use Rattle.esto_settings.specs.Settings.{entries_of}
use Rattle.esto_settings.proofs.setting.entries_of.Given as goal

abbrev pub invariant-items : goal.invariant-items
invariant-items l = entries_of (items_view l.array) ≡ after l.entries (entries_of (items_view (drop l.item-index l.array)))
