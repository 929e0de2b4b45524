use Rattle.std.proofs.Common.{arith}
use Rattle.esto_rows.proofs.same.are_one_list.Goals as goal

pub stand_alike-requires : goal.stand_alike-requires
stand_alike-requires c = let same = c.if-len.false in let one = c.len.ensures in let other = c.len-2.ensures in omega (arith, same, one, other)
