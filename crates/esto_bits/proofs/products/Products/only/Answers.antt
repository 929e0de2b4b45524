use Rattle.std.proofs.Common.{inl, inr, ap, subst, ◌∙◌}
use Rattle.esto_term.specs.Sets.{Covers}
use Rattle.esto_bits.specs.Kept.{with_set}
use Rattle.esto_bits.proofs.JoinLemmas.{covers_none}
use Rattle.esto_bits.proofs.products.Products.only.Goals as goal

pub returns-clause-value : goal.returns-clause-value
returns-clause-value c =
    let count = c.add.ensures.count ∙ c.new-found.ensures.count ∙ c.count.ensures in
    let sets = c.in_ok-add.ensures.ok ∙ ap (λ sets. with_set sets c.args.set.now) c.new-found.ensures.empty in
    λ i. record { count = count i; sets = sets i }

pub returns-clause-covers : goal.returns-clause-covers
returns-clause-covers c = λ other.
    let also = c.in_ok-add.ensures.covers other in (
      λ covers. elim (also.0 covers) [
        | inl none ↦ absurd (covers_none other (subst (λ sets. Covers sets other) c.new-found.ensures.empty none))
        | inr within ↦ within
      ],
      λ within. also.1 (inr within),
    )
