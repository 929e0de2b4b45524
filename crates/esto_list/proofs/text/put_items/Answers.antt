use Rattle.esto_list.specs.Text.{item_line}
use Rattle.esto_views.proofs.PrintingLemmas.{each_turn, each_end}
use Rattle.esto_list.proofs.text.put_items.Goals as goal

pub items-preserved : goal.items-preserved
items-preserved c = each_turn item_line c.args.items.now c.items.place _ c.items.text c.items.invariant c.index-items-place.result c.put_item.new.text
    c.items-test.true c.index-items-place.is c.in_ok-put_item.ensures

pub returns : goal.returns
returns c = each_end item_line c.args.items.now c.items.place _ c.items.text c.items.invariant c.items-test.false
