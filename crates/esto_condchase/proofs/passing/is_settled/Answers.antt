use Rattle.std.proofs.Common.{inl, inr}
use Rattle.esto_condchase.proofs.passing.is_settled.Goals as goal

pub returns-then-are_one : goal.returns-then-are_one
returns-then-are_one c told = inr (c.are_one.ensures c.if-are_one.true)

pub returns : goal.returns
returns c told = inl (c.covers.ensures told)
