use Rattle.std.proofs.Common.{inl, inr, arith}
use Rattle.esto_condchase.proofs.evidence.add_others.Goals as goal

pub returns-then-is_empty-clause-covers : goal.returns-then-is_empty-clause-covers
returns-then-is_empty-clause-covers c = λ set. (
  λ covered. inr covered,
  λ covered. elim covered [
    | inl before ↦ absurd (let empty = c.is_empty.ensures.0 c.if-is_empty.true in omega (arith, before.1.1, empty))
    | inr now ↦ now
  ],
)
