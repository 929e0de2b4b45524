use Rattle.std.proofs.Common.{subst}
use Rattle.esto_part_cases.specs.Leading.{AreBelow}
use Rattle.esto_part_cases.proofs.chasing.leads_below.Goals as goal

pub returns-then-are_below : goal.returns-then-are_below
returns-then-are_below c = λ below. rw c.in-Tuple.is (
  subst (AreBelow c.args.relations) c.items.ensures (c.are_below.ensures c.if-are_below.true),
  subst (AreBelow c.args.relations) c.items-then-are_below.ensures (c.are_below-then-are_below.ensures below),
)
