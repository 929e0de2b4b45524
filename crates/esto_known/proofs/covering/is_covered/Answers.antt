use Rattle.std.proofs.Common.{inl, inr, refl, sym, ◌∙◌}
use Rattle.std.proofs.lemmas.Bool.{false≢true}
use Rattle.esto_known.proofs.CoverLemmas.{covered_cases, covers_covered, trivial_covered}
use Rattle.esto_known.proofs.covering.is_covered.Goals as goal

pub returns-then-is_trivial : goal.returns-then-is_trivial
returns-then-is_trivial c = (
  (λ _. trivial_covered c.args.entries.now c.args.product.now c.args.claim.now (c.is_trivial.ensures.0 c.if-is_trivial.true)),
  (λ _. refl),
)

pub returns : goal.returns
returns c = (
  (λ is. covers_covered c.args.entries.now c.args.claim.now c.args.product.now (c.covers.ensures.0 is)),
  (λ covered. elim (covered_cases c.args.entries.now c.args.product.now c.args.claim.now covered) [
    | inl trivial ↦ absurd (false≢true (sym c.if-is_trivial.false ∙ c.is_trivial.ensures.1 trivial))
    | inr covers ↦ c.covers.ensures.1 covers
  ]),
)
