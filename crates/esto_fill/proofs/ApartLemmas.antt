-- Two rising lists of rows, and the least row that is in one of them alone.
use Rattle.std.proofs.Common.{◌≡◌, ◌≢◌, inl, inr, ℕ, ◌≤◌, ◌<◌, ◌+◌, List, length, get_or, Some, None, slice_get, Contains, refl, sym, ap, ◌∙◌, subst, arith}
use Rattle.std.specs.Prelude.{AllPairs}
use Rattle.std.specs.Cmp.{IsTotalOrder}
use Rattle.std.specs.Cmp.Lexicographic.{slice_cmp}
use Rattle.std.specs.Ordering.{nat_cmp, ordering_reverse}
use Rattle.std.specs.declared.cmp.Ordering.{Ordering}
use Rattle.std.specs.declared.cmp.Ordering.TheVariants.{Less, Equal, Greater}
use Rattle.std.proofs.lemmas.Bool.{cases_order}
use Rattle.std.proofs.lemmas.Cmp.{tied_itself}
use Rattle.std.proofs.lemmas.Option.{get_or_from_slice_get, same_Some, slice_get_within}
use Rattle.esto_rows.specs.Lent.{AreRising}
use Rattle.esto_ports.specs.declared.difference.Difference.TheVariants.{Missing, Extra}
use Rattle.esto_stores.specs.Rows.{Row}
use Rattle.esto_term.proofs.ChoiceLemmas.{not_less_itself}
use Rattle.esto_term.proofs.ListLemmas.{Contains-at, place-from_Contains}
use Rattle.esto_fill.specs.Differences.{IsInOne, IsLeastApart, AreOne}
use Rattle.esto_fill.specs.Judging.{TellsApart}
use Rattle.esto_fill.proofs.OrderLemmas.{texts_exact, texts_total}

module _ {A : Type 0} (cmp : A → A → Ordering) (total : IsTotalOrder cmp) where
  abbrev Ascend : List A → Type 0
  Ascend xs = AllPairs (λ x y. cmp x y ≡ Less) xs

  -- an item at a place before another's is less
  before : (xs : List A) → Ascend xs → (place later : ℕ) (x y : A) → place < later → slice_get xs place ≡ Some x → slice_get xs later ≡ Some y → cmp x y ≡ Less
  before xs ascends place later x y less at there =
      subst (λ it. cmp x it ≡ Less) (get_or_from_slice_get xs later y x there)
      (subst (λ it. cmp it (get_or xs later x) ≡ Less) (get_or_from_slice_get xs place x x at)
      (ascends place later x less (slice_get_within xs later y there)))

  -- the lists have the same items before the place
  abbrev AreSameBelow : List A → List A → ℕ → Type 0
  AreSameBelow xs ys bound = (place : ℕ) → place < bound → slice_get xs place ≡ slice_get ys place

  one_below : (xs ys : List A) (bound : ℕ) → slice_get xs bound ≡ slice_get ys bound → AreSameBelow xs ys bound → AreSameBelow xs ys (bound + 1)
  one_below xs ys bound here same place below = elim (cases_order place bound) [
    | inl is ↦ ap (slice_get xs) is ∙ here ∙ ap (slice_get ys) (sym is)
    | inr (inl less) ↦ same place less
    | inr (inr more) ↦ absurd (omega (arith, more, below))
  ]

  turned : (xs ys : List A) (bound : ℕ) → AreSameBelow xs ys bound → AreSameBelow ys xs bound
  turned xs ys bound same place below = sym (same place below)

  -- where the item at the place is less than all that the other list has from there on, it is the least that is in one list alone
  module _ (xs ys : List A) (ascends : Ascend xs) (place : ℕ) (x : A) (at : slice_get xs place ≡ Some x) (same : AreSameBelow xs ys place)
      (ahead : (later : ℕ) (y : A) → place ≤ later → slice_get ys later ≡ Some y → cmp x y ≡ Less) where
    outside : ¬ (Contains ys x)
    outside inside =
        let found = place-from_Contains ys x inside in
        elim (cases_order found.0 place) [
          | inl is ↦ not_less_itself cmp total x (ahead found.0 x (omega (arith, is)) found.1)
          | inr (inl less) ↦ not_less_itself cmp total x (before xs ascends found.0 place x x less (same found.0 less ∙ found.1) at)
          | inr (inr more) ↦ not_less_itself cmp total x (ahead found.0 x (omega (arith, more)) found.1)
        ]

    not_greater : (other : A) → cmp x other ≡ Less → cmp x other ≢ Greater
    not_greater other less more = let wrong : Less ≡ Greater = sym less ∙ more in absurd (cc)

    least : (other : A) → IsInOne (Contains xs) (Contains ys) other → cmp x other ≢ Greater
    least other (inl (inside, apart)) =
        let found = place-from_Contains xs other inside in
        elim (cases_order found.0 place) [
          | inl is ↦ λ more.
              let one : x ≡ other = same_Some x other (sym at ∙ ap (slice_get xs) (sym is) ∙ found.1) in
              let wrong : Equal ≡ Greater = sym (tied_itself total x) ∙ ap (cmp x) one ∙ more in absurd (cc)
          | inr (inl less) ↦ absurd (apart (Contains-at ys found.0 other (sym (same found.0 less) ∙ found.1)))
          | inr (inr more) ↦ not_greater other (before xs ascends place found.0 x other more at found.1)
        ]
    least other (inr (inside, apart)) =
        let found = place-from_Contains ys other inside in
        elim (cases_order found.0 place) [
          | inl is ↦ not_greater other (ahead found.0 other (omega (arith, is)) found.1)
          | inr (inl less) ↦ absurd (apart (Contains-at xs found.0 other (same found.0 less ∙ found.1)))
          | inr (inr more) ↦ not_greater other (ahead found.0 other (omega (arith, more)) found.1)
        ]

  -- past the end of the other list nothing is ahead
  past_end : (x : A) (ys : List A) (place : ℕ) → length ys ≤ place → (later : ℕ) (y : A) → place ≤ later → slice_get ys later ≡ Some y → cmp x y ≡ Less
  past_end x ys place past later y from there = let within = slice_get_within ys later y there in absurd (omega (arith, within, past, from))

  -- all that a list has from a place on is no less than what it has there
  from_there : (x : A) (ys : List A) → Ascend ys → (place : ℕ) (own : A) → slice_get ys place ≡ Some own → cmp x own ≡ Less
      → (later : ℕ) (y : A) → place ≤ later → slice_get ys later ≡ Some y → cmp x y ≡ Less
  from_there x ys ascends place own at less later y from there = elim (cases_order later place) [
    | inl is ↦ subst (λ it. cmp x it ≡ Less) (same_Some own y (sym at ∙ ap (slice_get ys) (sym is) ∙ there)) less
    | inr (inl before_it) ↦ absurd (omega (arith, before_it, from))
    | inr (inr after) ↦ total.trans x own y less (before ys ascends place later own y after at there)
  ]

  -- lists that are the same to the end of both have the same items
  all_same : (xs ys : List A) (bound : ℕ) → length xs ≤ bound → length ys ≤ bound → AreSameBelow xs ys bound → AreOne (Contains xs) (Contains ys)
  all_same xs ys bound long too same thing = (
    (λ inside. let found = place-from_Contains xs thing inside in
        let within = slice_get_within xs found.0 thing found.1 in
        Contains-at ys found.0 thing (sym (same found.0 (omega (arith, within, long))) ∙ found.1)),
    (λ inside. let found = place-from_Contains ys thing inside in
        let within = slice_get_within ys found.0 thing found.1 in
        Contains-at xs found.0 thing (same found.0 (omega (arith, within, too)) ∙ found.1)),
  )

-- ---- two rising lists of rows

abbrev texts_cmp : Row → Row → Ordering
texts_cmp = slice_cmp (slice_cmp nat_cmp)

-- the lists have the same rows before the place
abbrev pub AreAlikeBelow : List Row → List Row → ℕ → Type 0
AreAlikeBelow = AreSameBelow texts_cmp texts_total

is_least : (rows others : List Row) → AreRising rows → (place : ℕ) (row : Row) → slice_get rows place ≡ Some row → AreAlikeBelow rows others place
    → ((later : ℕ) (other : Row) → place ≤ later → slice_get others later ≡ Some other → texts_cmp row other ≡ Less)
    → IsLeastApart (Contains rows) (Contains others) row
is_least rows others rising place row at same ahead = record {
  inside = Contains-at rows place row at;
  outside = outside texts_cmp texts_total rows others rising place row at same ahead;
  least = least texts_cmp texts_total rows others rising place row at same ahead;
}

module _ (name : List ℕ) (own held : List Row) (rising : AreRising own) (rises : AreRising held) (place : ℕ) (same : AreAlikeBelow own held place) where
  -- where the second list has ended
  pub tells_rest : (row : Row) → slice_get own place ≡ Some row → length held ≤ place → TellsApart name own held (Some (Missing name row))
  tells_rest row at past = (refl, is_least own held rising place row at same (past_end texts_cmp texts_total row held place past))

  module _ (row other : Row) (at : slice_get own place ≡ Some row) (there : slice_get held place ≡ Some other) where
    pub tells_less : texts_cmp row other ≡ Less → TellsApart name own held (Some (Missing name row))
    tells_less less = (refl, is_least own held rising place row at same (from_there texts_cmp texts_total row held rises place other there less))

    pub tells_more : texts_cmp row other ≡ Greater → TellsApart name own held (Some (Extra name other))
    tells_more more = (
      refl,
      is_least held own rises place other there (turned texts_cmp texts_total own held place same)
          (from_there texts_cmp texts_total other own rising place row at (texts_total.antisymm other row ∙ ap ordering_reverse more)),
    )

    pub alike_on : texts_cmp row other ≡ Equal → AreAlikeBelow own held (place + 1)
    alike_on equal = one_below texts_cmp texts_total own held place (at ∙ ap Some (texts_exact row other equal) ∙ sym there) same

  module _ (past : length own ≤ place) where
    -- where the first list has ended
    pub tells_longer : (other : Row) → slice_get held (length own) ≡ Some other → TellsApart name own held (Some (Extra name other))
    tells_longer other there = (
      refl,
      is_least held own rises (length own) other there (λ it below. sym (same it (omega (arith, below, past))))
          (past_end texts_cmp texts_total other own (length own) (omega arith)),
    )

    pub tells_none : length held ≤ place → TellsApart name own held None
    tells_none too = all_same texts_cmp texts_total own held place past too same
