use Rattle.std.proofs.Common.{sym, ◌∙◌}
use Rattle.std.proofs.lemmas.Bool.{false≢true}
use Rattle.esto_fill.proofs.tried.is_same_equality.Goals as goal

pub returns-then-not-equal : goal.returns-then-not-equal
returns-then-not-equal c = (
  (λ wrong. absurd (false≢true wrong)),
  (λ same. absurd (false≢true (sym c.if-not-equal.true ∙ c.equal.ensures.1 same.1.0))),
)

pub returns-then-not-equal-2 : goal.returns-then-not-equal-2
returns-then-not-equal-2 c = (
  (λ wrong. absurd (false≢true wrong)),
  (λ same. absurd (false≢true (sym c.if-not-equal-2.true ∙ c.equal-2.ensures.1 same.1.1))),
)

pub returns : goal.returns
returns c = (
  (λ yes. (
    sym c.items.ensures ∙ c.are_same.ensures.0 yes ∙ c.items-2.ensures,
    (c.equal.ensures.0 c.if-not-equal.false, c.equal-2.ensures.0 c.if-not-equal-2.false),
  )),
  (λ same. c.are_same.ensures.1 (c.items.ensures ∙ same.0 ∙ sym c.items-2.ensures)),
)
