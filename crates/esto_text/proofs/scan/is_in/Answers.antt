use Rattle.std.proofs.Common.{inl, inr}
use Rattle.std.proofs.lemmas.Bool.{eqb-true, eq-eqb}
use Rattle.esto_text.proofs.ScanLemmas.{told_apart, not_beyond}
use Rattle.esto_text.proofs.scan.is_in.Goals as goal

pub returns-in-Letter : goal.returns-in-Letter
returns-in-Letter c = rw c.in-Letter.is (told_apart c.is_ascii_alphabetic.result c.is_ascii_alphabetic.ensures.cases (λ within beyond. elim within [
  | inl upper ↦ not_beyond 65 90 c.args.byte upper beyond.0
  | inr lower ↦ not_beyond 97 122 c.args.byte lower beyond.1
]))

pub returns-in-Digit : goal.returns-in-Digit
returns-in-Digit c = rw c.in-Digit.is (told_apart c.is_ascii_digit.result c.is_ascii_digit.ensures.cases (not_beyond 48 57 c.args.byte))

pub returns-else-is_ascii_alphanumeric : goal.returns-else-is_ascii_alphanumeric
returns-else-is_ascii_alphanumeric c =
    let beyond = c.if-is_ascii_alphanumeric.ensures.cases in
    rw c.in-Word.is (
      λ yes. inr (inr (eqb-true c.args.byte 95 yes)),
      λ is. elim is [
        | inl letter ↦ absurd (elim letter [
          | inl upper ↦ not_beyond 65 90 c.args.byte upper beyond.0.1
          | inr lower ↦ not_beyond 97 122 c.args.byte lower beyond.1
        ])
        | inr other ↦ elim other [ inl digit ↦ absurd (not_beyond 48 57 c.args.byte digit beyond.0.0) | inr same ↦ eq-eqb c.args.byte 95 same ]
      ],
    )

pub returns-then-is_ascii_alphanumeric : goal.returns-then-is_ascii_alphanumeric
returns-then-is_ascii_alphanumeric c =
    rw c.in-Word.is (
      λ yes. elim c.if-is_ascii_alphanumeric.ensures.cases [
        | inl first ↦ elim first [ inl digit ↦ inr (inl digit) | inr upper ↦ inl (inl upper) ]
        | inr lower ↦ inl (inr lower)
      ],
      λ is. c.if-is_ascii_alphanumeric.true,
    )
