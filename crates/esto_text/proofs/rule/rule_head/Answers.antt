use Rattle.std.proofs.Common.{length, sym, true-eqb, false-eqb}
use Rattle.esto_text.proofs.RuleLemmas.{side_ends, side_end_fails}
use Rattle.esto_text.specs.declared.token.TokenKind.TheVariants.{Equals}
use Rattle.esto_text.proofs.PathLemmas.{some_next}
use Rattle.esto_text.proofs.rule.rule_head.Goals as goal

pub returns-then-not-is_empty-clause-err : goal.returns-then-not-is_empty-clause-err
returns-then-not-is_empty-clause-err c =
    side_end_fails c.args.tokens.now c.in_ok-left.rest.now c.in_ok-left.left c.in_ok-left.ensures.ok (sym c.in-Equals.ensures) c.in_ok-right-in-Equals.right
    c.in_ok-right-in-Equals.rest.now
    (rw c.split_at.ensures.back at c.in_ok-right-in-Equals.ensures.ok) (false-eqb _ 0 c.if-not-is_empty.ensures)

pub returns-else-not-is_empty-clause-ok : goal.returns-else-not-is_empty-clause-ok
returns-else-not-is_empty-clause-ok c =
    side_ends c.args.tokens.now c.in_ok-left.rest.now c.in_ok-left.left c.in_ok-left.ensures.ok (sym c.in-Equals.ensures) c.in_ok-right-in-Equals.right
    c.in_ok-right-in-Equals.rest.now
    (rw c.split_at.ensures.back at c.in_ok-right-in-Equals.ensures.ok) (true-eqb (length c.in_ok-right-in-Equals.rest.now) 0 c.if-not-is_empty.ensures)

pub split_at-requires : goal.split_at-requires
split_at-requires c = some_next c.in_ok-left.rest.now Equals (sym c.in-Equals.ensures) (λ z. cc)
