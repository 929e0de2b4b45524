use Rattle.std.proofs.Common.{◌≡◌, drop}
use Rattle.toml.specs.View.{items_view}
use Rattle.esto_term.proofs.ListLemmas.{after}
use Rattle.esto_settings.specs.Settings.{texts_of}
use Rattle.esto_settings.proofs.setting.texts_of.Given as goal

abbrev pub invariant-items : goal.invariant-items
invariant-items l = texts_of (items_view l.array) ≡ after l.texts (texts_of (items_view (drop l.item-index l.array)))
