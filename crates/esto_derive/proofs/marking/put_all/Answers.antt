use Rattle.std.proofs.Common.{ℕ, ◌<◌, inl, inr, sym, subst}
use Rattle.esto_derive.proofs.MarkLemmas.{all_below}
use Rattle.esto_derive.proofs.marking.put_all.Goals as goal

pub of-requires : goal.of-requires
of-requires c =
    all_below c.count.result c.args.places.now
    (λ place inside. subst (λ (it : ℕ). place < it) (sym c.count.ensures) (c.requires place inside))

pub returns-clause-has : goal.returns-clause-has
returns-clause-has c place = (
  (λ has. elim ((c.union.ensures.has place).0 has) [ inl before ↦ inl before | inr named ↦ inr ((c.in_ok-named.ensures.has place).0 named) ]),
  (λ which. (c.union.ensures.has place).1 (elim which [ inl before ↦ inl before | inr inside ↦ inr ((c.in_ok-named.ensures.has place).1 inside) ])),
)
