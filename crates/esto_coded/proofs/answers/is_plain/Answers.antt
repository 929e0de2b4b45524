use Rattle.std.proofs.Common.{◌≡◌, length, arith}
use Rattle.esto_coded.proofs.WholeLemmas.{no_items, one_item}
use Rattle.esto_coded.proofs.answers.is_plain.Goals as goal

pub returns-then-len-eq1 : goal.returns-then-len-eq1
returns-then-len-eq1 c = λ told.
    let count = c.len.ensures in
    let is_one = c.if-len-eq1.true in
    let one : length c.args.steps.now.gets ≡ 1 = omega (arith, count, is_one) in (
      c.item.result.now,
      one_item c.args.steps.now.gets c.item.result.now one c.item.ensures,
      no_items c.item.result.now.filters (c.is_empty.ensures.0 told),
    )
