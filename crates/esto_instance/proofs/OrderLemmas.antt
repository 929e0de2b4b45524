-- The orders of facts and of entries, and an index in order.
use Rattle.std.proofs.Common.{◌≡◌, ◌≢◌, inl, inr, ℕ, ◌<◌, ◌≤◌, Bool, true, false, List, length, get_or, ltb, refl, sym, ap, ◌∙◌, subst, arith}
use Rattle.std.specs.Cmp.{IsTotalOrder}
use Rattle.std.specs.Cmp.Lexicographic.{slice_cmp}
use Rattle.std.specs.List.Sorted.{IsPartitionedBy, IsPartitionPoint}
use Rattle.std.specs.Ordering.{nat_cmp, ordering_then, ordering_reverse, is_lt}
use Rattle.std.specs.declared.cmp.Ordering.{Ordering}
use Rattle.std.specs.declared.cmp.Ordering.TheVariants.{Less, Equal, Greater}
use Rattle.std.proofs.lemmas.Bool.{cases_lt}
use Rattle.std.proofs.lemmas.Bool.Decides.{nat_tests}
use Rattle.std.proofs.lemmas.Cmp.{lists_total, nat_cmp_total, on_total, then_total}
use Rattle.std.proofs.lemmas.List.{get_or_default}
use Rattle.std.proofs.lemmas.Map.Lookups.{exact_unsigned}
use Rattle.esto_term.specs.Order.{term_cmp}
use Rattle.esto_term.specs.declared.term.Term.{Term}
use Rattle.esto_term.proofs.OrderLemmas.{term_cmp_total}
use Rattle.esto_term.proofs.TotalOrderLemmas.{both_equal, below, is_less, not_less}
use Rattle.esto_term.proofs.CompareLemmas.{rows_exact}
use Rattle.esto_semantics.specs.declared.fact.Fact.{Fact}
use Rattle.esto_instance.specs.Fresh.{fact_cmp, entry_cmp, IsInOrder, IsFirstRank}
use Rattle.esto_instance.specs.declared.fresh.Entry.{Entry}

-- ---- the order of facts

fact_cmp_total : IsTotalOrder fact_cmp
fact_cmp_total =
    then_total (on_total (λ (fact : Fact Term). fact.relation) nat_cmp_total) (on_total (λ (fact : Fact Term). fact.terms) (lists_total term_cmp_total))

fact_cmp_exact : (fact other : Fact Term) → fact_cmp fact other ≡ Equal → fact ≡ other
fact_cmp_exact fact other told =
    let parts = both_equal (nat_cmp fact.relation other.relation) (slice_cmp term_cmp fact.terms other.terms) told in
    let relation = exact_unsigned fact.relation other.relation parts.0 in
    let terms = rows_exact fact.terms other.terms parts.1 in
    λ i. record { relation = relation i; terms = terms i }

-- ---- the order of entries

pub entry_cmp_total : IsTotalOrder entry_cmp
entry_cmp_total = then_total (on_total (λ (entry : Entry). entry.fact.now) fact_cmp_total) (on_total (λ (entry : Entry). entry.rank) nat_cmp_total)

-- ---- the first entry of a fact

equal_by : (fact other : Fact Term) → fact_cmp fact other ≢ Less → fact_cmp other fact ≢ Less → fact ≡ other
equal_by fact other up down = by (fact_cmp fact other) refl
  where
    by : (order : Ordering) → fact_cmp fact other ≡ order → fact ≡ other
    by Less told = absurd (up told)
    by Equal told = fact_cmp_exact fact other told
    by Greater told = absurd (down (fact_cmp_total.antisymm other fact ∙ ap ordering_reverse told))

-- entries in order have facts in order
facts_rise : (entry other : Entry) → entry_cmp other entry ≢ Less → fact_cmp other.fact.now entry.fact.now ≢ Less
facts_rise entry other up less = up (ap (λ order. ordering_then order (nat_cmp other.rank entry.rank)) less)

-- entries of one fact in order have ranks in order
ranks_rise : (entry other : Entry) → entry.fact.now ≡ other.fact.now → entry_cmp other entry ≢ Less → entry.rank ≤ other.rank
ranks_rise entry other same up = elim (cases_lt other.rank entry.rank) [
  | inl less ↦ absurd (up (
      ap (λ fact. ordering_then (fact_cmp other.fact.now fact) (nat_cmp other.rank entry.rank)) same
      ∙ ap (λ order. ordering_then order (nat_cmp other.rank entry.rank)) (tied other.fact.now) ∙ (grind (arith, nat_tests))))
  | inr most ↦ most
]
  where
    tied : (fact : Fact Term) → fact_cmp fact fact ≡ Equal
    tied fact = by (fact_cmp fact fact) refl (fact_cmp_total.antisymm fact fact)
      where
        by : (order : Ordering) → fact_cmp fact fact ≡ order → fact_cmp fact fact ≡ ordering_reverse (fact_cmp fact fact) → fact_cmp fact fact ≡ Equal
        by Less told turned = absurd (let wrong : Less ≡ Greater = sym told ∙ turned ∙ ap ordering_reverse told in cc)
        by Equal told turned = told
        by Greater told turned = absurd (let wrong : Greater ≡ Less = sym told ∙ turned ∙ ap ordering_reverse told in cc)

module _ (index : List Entry) (fact : Fact Term) (order : IsInOrder index) where
  abbrev pub is_lesser : Entry → Bool
  is_lesser entry = is_lt (fact_cmp entry.fact.now fact)

  pub lesser_parted : IsPartitionedBy is_lesser index
  lesser_parted i j d le lt told =
      let x = get_or index i d in
      let y = get_or index j d in
      ap is_lt (below fact_cmp fact_cmp_total x.fact.now y.fact.now fact (facts_rise x y (order i j d le lt)) (is_less (fact_cmp y.fact.now fact) told))

  module _ (first : ℕ) (parted : IsPartitionPoint (λ (entry : Entry). is_lesser entry ≡ true) (λ (entry : Entry). is_lesser entry ≡ false) index first) where
    -- an entry of the fact stands no earlier
    not_before : (k : ℕ) (entry : Entry) → k < length index → get_or index k entry ≡ entry → entry.fact.now ≡ fact → first ≤ k
    not_before k entry within read is = elim (cases_lt k first) [
      | inl before ↦ absurd (itself (subst (λ (it : Entry). is_lesser it ≡ true) read (parted.0 k entry (omega arith) before)))
      | inr from ↦ from
    ]
      where
        itself : is_lesser entry ≡ true → ⊥
        itself told =
            let less : fact_cmp fact fact ≡ Less = ap (λ it. fact_cmp it fact) (sym is) ∙ is_less (fact_cmp entry.fact.now fact) told in
            let wrong : Less ≡ Greater = sym less ∙ fact_cmp_total.antisymm fact fact ∙ ap ordering_reverse less in
            cc

    pub first-there : (entry : Entry) → true ≡ ltb first (length index) → entry ≡ get_or index first entry → IsFirstRank index fact entry.rank
    first-there entry inside at other (found, (k, within, read), (is, rank)) =
        let from : first ≤ k = not_before k found within read is in
        let here : first < length index = grind (arith, nat_tests) in
        let read_here : get_or index first entry ≡ entry = sym at in
        let up : entry_cmp found entry ≢ Less = λ less.
        order first k entry from within ((λ i. entry_cmp (there k found within read i) (read_here i)) ∙ less) in
        let no_less : fact_cmp entry.fact.now fact ≢ Less =
        not_less (fact_cmp entry.fact.now fact)
        (subst (λ (it : Entry). is_lesser it ≡ false) read_here (parted.1 first entry (omega arith) here)) in
        let same : entry.fact.now ≡ fact =
        equal_by entry.fact.now fact no_less (λ less. facts_rise entry found up (ap (λ it. fact_cmp it entry.fact.now) is ∙ less)) in
        ((entry, (first, here, read_here), (same, refl)), subst (λ it. entry.rank ≤ it) rank (ranks_rise entry found (same ∙ sym is) up))
      where
        there : (k : ℕ) (found : Entry) → k < length index → get_or index k found ≡ found → get_or index k entry ≡ found
        there k found within read = get_or_default index k entry found within ∙ read

    pub first-past : length index ≤ first → IsFirstRank index fact 0
    first-past past other (found, (k, within, read), (is, rank)) =
        let from : first ≤ k = not_before k found within read is in
        absurd (omega (arith, within, past, from))
