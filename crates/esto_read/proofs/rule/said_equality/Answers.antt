use Rattle.std.proofs.lemmas.Result.{err_from_is_err_and}
use Rattle.esto_read.proofs.rule.said_equality.Goals as goal

pub returns-in_err-left : goal.returns-in_err-left
returns-in_err-left c =
    let p = err_from_is_err_and c.from_residual.result c.from_residual.ensures.1 in
    rw (p.1, p.2) (record { said = tt; over = tt; error = rw c.items.ensures at c.in_err-left.ensures.error })

pub equal_rule-requires : goal.equal_rule-requires
equal_rule-requires c =
    c.requires.parts c.in_ok-left.left c.in_ok-left.right c.safe_sides.new.names c.in_ok-left.ensures.sides
    (rw c.items.ensures at c.in_ok-left.ensures.fixed)

pub returns-clause-said : goal.returns-clause-said
returns-clause-said c = (
  c.in_ok-left.left,
  c.in_ok-left.right,
  c.safe_sides.new.names,
  c.in_ok-left.ensures.sides,
  c.equal_rule.ensures.made,
)

pub returns-clause-over : goal.returns-clause-over
returns-clause-over c = c.equal_rule.ensures.over
