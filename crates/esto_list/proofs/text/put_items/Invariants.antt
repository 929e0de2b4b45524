use Rattle.std.proofs.Common.{◌≡◌, ◌++◌, drop}
use Rattle.esto_list.specs.Text.{item_line}
use Rattle.esto_views.specs.Printing.{each_from}
use Rattle.esto_list.proofs.text.put_items.Given as goal

abbrev pub invariant-items : goal.invariant-items
invariant-items l = l.text ++ each_from item_line l.place (drop l.place l.items) ≡ l.initial.text ++ each_from item_line 0 l.items
