-- The order of entries, the entries of terms, and the first place of a term.
use Rattle.std.proofs.Common.{◌≡◌, ◌≢◌, inl, inr, ℕ, ◌+◌, ◌<◌, ◌≤◌, Bool, true, false, List, [], ◌∷◌, ◌++◌, length, get_or, ltb, take}
use Rattle.std.proofs.Common.{slice_get, Contains, None, Some, Option, refl, sym, ap, ◌∙◌, subst, arith}
use Rattle.std.specs.Prelude.{MatchOption}
use Rattle.std.specs.Cmp.{IsTotalOrder}
use Rattle.std.specs.List.Sorted.{IsPartitionedBy, IsPartitionPoint, IsPermutation}
use Rattle.std.specs.Ordering.{nat_cmp, ordering_then, ordering_reverse, is_lt, is_eq}
use Rattle.std.specs.declared.cmp.Ordering.{Ordering}
use Rattle.std.specs.declared.cmp.Ordering.TheVariants.{Less, Equal, Greater}
use Rattle.std.proofs.lemmas.Bool.{cases_lt, cases_order, false≢true}
use Rattle.std.proofs.lemmas.Bool.Decides.{nat_tests}
use Rattle.std.proofs.lemmas.Cmp.{nat_cmp_total, on_total, then_total}
use Rattle.std.proofs.lemmas.List.{get_or_default, length-take}
use Rattle.std.proofs.lemmas.List.Elements.{Contains-append_left, Contains-push, Contains-push_cases}
use Rattle.std.proofs.lemmas.List.Sorted.{Contains-permutation, IsPermutation-sym}
use Rattle.esto_term.specs.Order.{term_cmp}
use Rattle.esto_term.specs.declared.term.Term.{Term}
use Rattle.esto_term.proofs.ListLemmas.{Contains-nil, at_left, at_end, at_pushed, place-from_Contains}
use Rattle.esto_term.proofs.PlaceLemmas.{Contains-take, Contains-take_from, take-item}
use Rattle.esto_term.proofs.OrderLemmas.{term_cmp_total, term_cmp_exact}
use Rattle.esto_term.proofs.TotalOrderLemmas.{below, is_less, not_less}
use Rattle.esto_views.specs.Indexes.{entry_cmp, AreEntries, IsInOrder, IsIndex, HasNoEntry, IsFirstEntry, IsFirstPlace}
use Rattle.esto_views.specs.declared.index.Entry.{Entry}

-- ---- the order of entries

pub entry_cmp_total : IsTotalOrder entry_cmp
entry_cmp_total = then_total (on_total (λ (entry : Entry). entry.term.now) term_cmp_total) (on_total (λ (entry : Entry). entry.place) nat_cmp_total)

-- ---- the entries of terms

pub entries_none : AreEntries [] []
entries_none = record { has = λ place term at. absurd (cc); only = λ entry inside. absurd (Contains-nil entry inside) }

pub entries_more : (terms : List Term) (place : ℕ) (term : Term) (now new : List Entry) (entry : Entry) → place < length terms
    → term ≡ get_or terms place term → new ≡ now ++ entry ∷ [] → entry.term.now ≡ term → entry.place ≡ place
    → AreEntries (take place terms) now → AreEntries (take (place + 1) terms) new
entries_more terms place term now new entry within is pushed term_is place_is so_far = record {
  has = λ k other at. elim (at_pushed (take place terms) term k other (subst (λ all. slice_get all k ≡ Some other) whole at)) [
    | inl earlier ↦ let found = so_far.has k other earlier in
        (found.0, subst (λ all. Contains all found.0) (sym pushed) (Contains-append_left now (entry ∷ []) found.0 found.1), found.2, found.3)
    | inr same ↦
        (entry, subst (λ all. Contains all entry) (sym pushed) (Contains-push now entry), term_is ∙ same.1, place_is ∙ sym (same.0 ∙ count))
  ];
  only = λ it inside. elim (Contains-push_cases now entry it (subst (λ all. Contains all it) pushed inside)) [
    | inl earlier ↦ subst (λ all. slice_get all it.place ≡ Some it.term.now) (sym whole)
        (at_left (take place terms) (term ∷ []) it.place it.term.now (so_far.only it earlier))
    | inr same ↦ subst (λ (e : Entry). slice_get (take (place + 1) terms) e.place ≡ Some e.term.now) same here
  ];
}
  where
    whole : take (place + 1) terms ≡ take place terms ++ term ∷ []
    whole = take-item terms place term within is

    count : length (take place terms) ≡ place
    count = omega (arith, within, length-take place terms)

    here : slice_get (take (place + 1) terms) entry.place ≡ Some entry.term.now
    here = ap (slice_get (take (place + 1) terms)) (place_is ∙ sym count) ∙ ap (λ all. slice_get all (length (take place terms))) whole
        ∙ at_end (take place terms) term ∙ ap Some (sym term_is)

pub entries_moved : (terms : List Term) (entries index : List Entry) → AreEntries terms entries → IsPermutation entries index → AreEntries terms index
entries_moved terms entries index are permuted = record {
  has = λ place term at. let found = are.has place term at in (found.0, Contains-permutation entries index found.0 permuted found.1, found.2, found.3);
  only = λ entry inside. are.only entry (Contains-permutation index entries entry (IsPermutation-sym entries index permuted) inside);
}

-- ---- the first entry of a term

tied : (term : Term) → term_cmp term term ≡ Equal
tied term = by (term_cmp term term) refl (term_cmp_total.antisymm term term)
  where
    by : (order : Ordering) → term_cmp term term ≡ order → term_cmp term term ≡ ordering_reverse (term_cmp term term) → term_cmp term term ≡ Equal
    by Less told turned = absurd (let wrong : Less ≡ Greater = sym told ∙ turned ∙ ap ordering_reverse told in cc)
    by Equal told turned = told
    by Greater told turned = absurd (let wrong : Greater ≡ Less = sym told ∙ turned ∙ ap ordering_reverse told in cc)

-- entries in order have terms in order
terms_rise : (entry other : Entry) → entry_cmp other entry ≢ Less → term_cmp other.term.now entry.term.now ≢ Less
terms_rise entry other up less = up (ap (λ order. ordering_then order (nat_cmp other.place entry.place)) less)

-- entries of one term in order have places in order
places_rise : (entry other : Entry) → entry.term.now ≡ other.term.now → entry_cmp other entry ≢ Less → entry.place ≤ other.place
places_rise entry other same up = elim (cases_lt other.place entry.place) [
  | inl less ↦ absurd (up (
      ap (λ term. ordering_then (term_cmp other.term.now term) (nat_cmp other.place entry.place)) same
      ∙ ap (λ order. ordering_then order (nat_cmp other.place entry.place)) (tied other.term.now) ∙ (grind (arith, nat_tests))))
  | inr most ↦ most
]

module _ (index : List Entry) (term : Term) (order : IsInOrder index) where
  abbrev pub is_lesser : Entry → Bool
  is_lesser entry = is_lt (term_cmp entry.term.now term)

  pub lesser_parted : IsPartitionedBy is_lesser index
  lesser_parted i j d le lt told =
      let x = get_or index i d in
      let y = get_or index j d in
      ap is_lt (below term_cmp term_cmp_total x.term.now y.term.now term (terms_rise x y (order i j d le lt)) (is_less (term_cmp y.term.now term) told))

  module _ (first : ℕ) (parted : IsPartitionPoint (λ (entry : Entry). is_lesser entry ≡ true) (λ (entry : Entry). is_lesser entry ≡ false) index first) where
    -- an entry of the term stands no earlier
    not_before : (k : ℕ) (entry : Entry) → k < length index → get_or index k entry ≡ entry → entry.term.now ≡ term → first ≤ k
    not_before k entry within read is = elim (cases_lt k first) [
      | inl before ↦ absurd (itself (subst (λ (it : Entry). is_lesser it ≡ true) read (parted.0 k entry (omega arith) before)))
      | inr from ↦ from
    ]
      where
        itself : is_lesser entry ≡ true → ⊥
        itself told =
            let less : Equal ≡ Less = sym (tied term) ∙ ap (λ it. term_cmp it term) (sym is) ∙ is_less (term_cmp entry.term.now term) told in
            cc

    module _ (entry : Entry) (inside : true ≡ ltb first (length index)) (at : entry ≡ get_or index first entry) where
      here : first < length index
      here = grind (arith, nat_tests)

      -- the entries of the term come no earlier than this one
      later : (k : ℕ) (found : Entry) → k < length index → get_or index k found ≡ found → found.term.now ≡ term → entry_cmp found entry ≢ Less
      later k found within read is less =
          order first k entry (not_before k found within read is) within
          ((λ i. entry_cmp ((get_or_default index k entry found within ∙ read) i) (sym at i)) ∙ less)

      pub first-same : entry.term.now ≡ term → IsFirstEntry index term entry.place
      first-same same = (
        (entry, (first, here, sym at), same, refl),
        (λ other (found, (k, within, read), is, place).
            subst (λ it. entry.place ≤ it) place (places_rise entry found (same ∙ sym is) (later k found within read is))),
      )

      pub first-other : entry.term.now ≢ term → HasNoEntry index term
      first-other apart place (found, (k, within, read), is, _) = by (term_cmp entry.term.now term) refl
        where
          no_less : term_cmp entry.term.now term ≢ Less
          no_less = not_less (term_cmp entry.term.now term)
              (subst (λ (it : Entry). is_lesser it ≡ false) (sym at) (parted.1 first entry (omega arith) here))

          no_greater : term_cmp term entry.term.now ≢ Less
          no_greater less = terms_rise entry found (later k found within read is) (ap (λ it. term_cmp it entry.term.now) is ∙ less)

          by : (answer : Ordering) → term_cmp entry.term.now term ≡ answer → ⊥
          by Less told = no_less told
          by Equal told = apart (term_cmp_exact entry.term.now term told)
          by Greater told = no_greater (term_cmp_total.antisymm term entry.term.now ∙ ap ordering_reverse told)

    pub first-past : length index ≤ first → HasNoEntry index term
    first-past past place (found, (k, within, read), is, _) =
        let from : first ≤ k = not_before k found within read is in
        omega (arith, within, past, from)

-- what the test says
pub equal_told : (term other : Term) → is_eq (term_cmp term other) ≡ true → term ≡ other
equal_told term other told = by (term_cmp term other) refl told
  where
    by : (answer : Ordering) → term_cmp term other ≡ answer → is_eq answer ≡ true → term ≡ other
    by Less is told = absurd (false≢true told)
    by Equal is told = term_cmp_exact term other is
    by Greater is told = absurd (false≢true told)

pub apart_told : (term other : Term) → is_eq (term_cmp term other) ≡ false → term ≢ other
apart_told term other told same =
    false≢true (sym told ∙ ap (λ it. is_eq (term_cmp term it)) (sym same) ∙ ap is_eq (tied term))

-- ---- the first place of a term

pub first_of_index : (terms : List Term) (index : List Entry) (term : Term) (result : Option ℕ) → IsIndex terms index
    → MatchOption result (HasNoEntry index term) (IsFirstEntry index term) → MatchOption result (Contains terms term → ⊥) (IsFirstPlace terms term)
first_of_index terms index term None is_index no_entry =
    λ inside. let at = place-from_Contains terms term inside in no_entry at.0 (is_index.entries.has at.0 term at.1)
first_of_index terms index term (Some place) is_index ((entry, inside, is, at), least) = (
  ap (slice_get terms) (sym at) ∙ is_index.entries.only entry inside ∙ ap Some is,
  (λ earlier. let found = Contains-take_from terms place term earlier in
      omega (arith, found.1, least found.0 (is_index.entries.has found.0 term found.2))),
)

-- where the term stands at a place that is not its first, it stands before
pub not_first : (terms : List Term) (term : Term) (place first : ℕ) → slice_get terms place ≡ Some term → IsFirstPlace terms term first
    → (first ≡ place → ⊥) → Contains (take place terms) term
not_first terms term place first at is_first apart = elim (cases_order first place) [
  | inl same ↦ absurd (apart same)
  | inr other ↦ elim other [
    | inl less ↦ Contains-take terms place first term less is_first.0
    | inr more ↦ absurd (is_first.1 (Contains-take terms first place term more at))
  ]
]
