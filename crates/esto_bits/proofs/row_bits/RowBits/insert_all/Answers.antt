use Rattle.std.proofs.Common.{◌↔◌, ◌⊎◌, ◌<◌, ℕ, inl, inr, length, get_or, Contains, refl, ap, sym, subst, ◌∙◌}
use Rattle.std.proofs.lemmas.List.{length-set, take_all}
use Rattle.std.proofs.lemmas.List.Elements.{All-get_or}
use Rattle.esto_term.proofs.ListLemmas.{Contains-nil}
use Rattle.esto_term.specs.Sets.{Has}
use Rattle.esto_bits.proofs.SetLemmas.{inserted_more}
use Rattle.esto_bits.proofs.row_bits.RowBits.insert_all.Goals as goal

pub numbers-init : goal.numbers-init
numbers-init c = record {
  count = refl;
  has = λ number. (λ has. inr has, λ has. elim has [ inl none ↦ absurd (Contains-nil number none) | inr before ↦ before ]);
}

pub insert-requires : goal.insert-requires
insert-requires c = subst (λ count. get_or c.args.numbers.now c.numbers.number-index 0 < count) (sym c.numbers.invariant.count)
    (All-get_or (λ number. number < length c.args.self.now) c.args.numbers.now c.numbers.number-index 0 c.numbers-test.true c.requires)

pub numbers-preserved : goal.numbers-preserved
numbers-preserved c = record {
  count = ap length c.insert.ensures.value ∙ length-set c.numbers.self _ _ ∙ c.numbers.invariant.count;
  has = inserted_more c.args.self.now c.numbers.self c.insert.new.self c.args.numbers.now c.numbers.number-index c.numbers-test.true c.insert.ensures.has
      c.numbers.invariant.has;
}

pub returns-clause-has : goal.returns-clause-has
returns-clause-has c =
    subst (λ them. (number : ℕ) → Has c.numbers.self number ↔ (Contains them number ⊎ Has c.args.self.now number))
    (take_all c.numbers.number-index c.args.numbers.now c.numbers-test.false) c.numbers.invariant.has
