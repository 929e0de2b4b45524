use Rattle.std.proofs.Common.{◌≤◌, ◌+◌, ◌++◌, ap, ◌∙◌, arith}
use Rattle.esto_columns.specs.Picked.{PickList, places_of}
use Rattle.esto_columns.proofs.PickLemmas.{part_joined, all_joined}
use Rattle.esto_columns.proofs.picks.select.Goals as goal

pub blocks-2-preserved : goal.blocks-2-preserved
blocks-2-preserved c =
    let at = c.blocks-2.invariant.inside in let test = c.blocks-2-test.true in let len = c.blocks-2.invariant.len in let more = c.push_block.ensures.len in
    let count = c.len-count.ensures in
    let room : c.blocks-2.at + 8 ≤ c.len-count.result = omega (arith, at, test) in record {
      inside = room;
      items = part_joined c.args.column.now c.into.inside.places.items c.blocks-2.into-inside.places.items c.push_block.new.places.items c.blocks-2.at
          (c.blocks-2.at + 8) c.args.code (omega arith) (omega (arith, room, count)) c.blocks-2.invariant.items c.push_block.ensures.items;
      len = omega (arith, len, more);
      capacity = c.push_block.ensures.capacity ∙ c.blocks-2.invariant.capacity;
    }

pub returns-clause-items : goal.returns-clause-items
returns-clause-items c =
    all_joined c.args.column.now c.into.inside.places.items c.blocks-2.into-inside.places.items c.push_places.new.places.items
    c.blocks-2.at c.len-count.result c.args.code c.blocks-2.invariant.inside c.len-count.ensures c.blocks-2.invariant.items
    c.push_places.ensures.items ∙ ap (λ (it : PickList). it.items ++ places_of 0 c.args.code c.args.column.now) c.into.view_is
