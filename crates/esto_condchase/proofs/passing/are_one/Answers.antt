use Rattle.std.proofs.Common.{inl}
use Rattle.std.proofs.lemmas.Bool.{false≢true}
use Rattle.esto_chase_laws.specs.declared.entry.Claim.TheVariants.{Same}
use Rattle.esto_known.proofs.CoverLemmas.{covers_covered}
use Rattle.esto_condchase.proofs.passing.are_one.Goals as goal

pub returns-in_default : goal.returns-in_default
returns-in_default c one = absurd (false≢true one)

pub returns-in_default-term_at : goal.returns-in_default-term_at
returns-in_default-term_at c one = absurd (false≢true one)

pub returns-in_default-term_at-2 : goal.returns-in_default-term_at-2
returns-in_default-term_at-2 c one = absurd (false≢true one)

pub returns-then-equal : goal.returns-then-equal
returns-then-equal c one = (
  c.in-Some.left,
  c.in-Some.right,
  c.in-Some.is,
  c.in-Some-term_at.own.now,
  c.in-Some-term_at-2.other.now,
  c.in-Some-term_at.ensures,
  c.in-Some-term_at-2.ensures,
  inl (c.equal.ensures.0 c.if-equal.true),
)

pub returns-else-equal : goal.returns-else-equal
returns-else-equal c one = (
  c.in-Some.left,
  c.in-Some.right,
  c.in-Some.is,
  c.in-Some-term_at.own.now,
  c.in-Some-term_at-2.other.now,
  c.in-Some-term_at.ensures,
  c.in-Some-term_at-2.ensures,
  covers_covered c.args.step.now.known.now (Same c.in-Some-term_at.own.now c.in-Some-term_at-2.other.now) c.args.product.now (c.says_one.ensures.0 one),
)
