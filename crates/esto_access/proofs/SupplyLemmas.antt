-- Rounds for all atoms.
use Rattle.std.proofs.Common.{◌≡◌, ◌↔◌, ◌<◌, ◌≤◌, ℕ, zero, suc, ◌+◌, Bool, List, [], ◌∷◌, ◌++◌, length, replicate, Some, slice_get, add-one, refl, sym, ap, ◌∙◌}
use Rattle.std.proofs.Common.{subst, inl, inr, arith, length-append}
use Rattle.std.proofs.lemmas.Bool.{cases_lt}
use Rattle.std.proofs.lemmas.List.{length-replicate}
use Rattle.std.proofs.lemmas.Option.{none-some, same_Some, slice_get_within}
use Rattle.esto_term.specs.declared.term.Term.{Term}
use Rattle.esto_semantics.specs.declared.fact.Fact.{Fact}
use Rattle.esto_semantics.specs.Access.{Patterns}
use Rattle.esto_term.specs.Sets.{Covers, TellHolds}
use Rattle.esto_bits.specs.Kept.{Kept, kept, AreOver, IsAntichain}
use Rattle.esto_access.specs.Supplies.{IsReachedIn, AreAccessProducts, sets_at, IsSupplied}
use Rattle.esto_access.specs.Rounds.{IsNextIn, InRounds, AreSupplies, AreOneRound, AreRounds, RoundsAreEnough, TellAllReached, AddNothing, LastRoundIsEnough}
use Rattle.esto_bits.proofs.FamilyLemmas.{antichain_is_minimal}
use Rattle.esto_bits.proofs.JoinLemmas.{covers_none}
use Rattle.esto_access.proofs.NeedLemmas.{sets_there, supplied_from}
use Rattle.esto_access.proofs.RoundLemmas.{next_more}
use Rattle.esto_term.proofs.ListLemmas.{at_pushed, thing_at}

module _ (patterns : Patterns) (atoms : List (Fact Term)) where
  module _ (supplies : List Kept) where
    -- what is made for a number in one round
    pub record IsMade (number : ℕ) (products : Kept) : Type 0 where
      pub count : products.count ≡ length atoms
      pub over : AreOver products.count products.sets
      pub antichain : IsAntichain products.sets
      pub covers : (set : List Bool) → Covers products.sets set ↔ IsNextIn patterns atoms set (IsSupplied supplies set) number

    -- the products of the first few numbers are made
    abbrev pub AreMadeBelow : ℕ → List Kept → Type 0
    AreMadeBelow count next = (length next ≡ count) × ((number : ℕ) (products : Kept) → slice_get next number ≡ Some products → IsMade number products)

    pub made_start : (none : List Kept) → none ≡ [] → AreMadeBelow 0 none
    made_start none is = (ap length is, λ number products at. absurd (none-some products (subst (λ it. slice_get it number ≡ Some products) is at)))

    pub made_grows : (count : ℕ) (next after : List Kept) (products : Kept) → after ≡ next ++ products ∷ [] → IsMade count products → AreMadeBelow count next
        → AreMadeBelow (count + 1) after
    made_grows count next after products is made (same, each) = (
      ap length is ∙ length-append next (products ∷ []) ∙ ap (λ n. n + 1) same,
      λ number found at. elim (at_pushed next products number found (subst (λ it. slice_get it number ≡ Some found) is at)) [
        | inl there ↦ each number found there
        | inr last ↦ subst (λ n. IsMade n found) (sym (last.0 ∙ same)) (subst (IsMade count) last.1 made)
      ],
    )

    module _ (next : List Kept) (made : AreMadeBelow (length atoms) next) where
      pub made_supplies : AreSupplies atoms next
      made_supplies = record {
        each = made.0;
        counts = λ number products at. (made.1 number products at).count;
        kept = λ number products at.
            ((made.1 number products at).over, (made.1 number products at).antichain);
      }

      pub made_round : AreOneRound patterns atoms supplies next
      made_round set number = elim (cases_lt number (length next)) [
        | inl below ↦ (let there = thing_at next number below in
            let covers = (made.1 number there.0 there.1).covers set in
            let own = sets_there next number there.0 there.1 in
            (λ h. covers.0 (subst (λ it. Covers it set) own h), λ h. subst (λ it. Covers it set) (sym own) (covers.1 h)))
        | inr beyond ↦ (
          λ h. let from = supplied_from next set number h in absurd (omega (arith, beyond, slice_get_within next number from.0 from.1)),
          λ h. absurd (omega (arith, beyond, made.0, slice_get_within atoms number h.1.0 h.1.1)),
        )
      ]

  -- ---- round after round

  nothing_at : (count number : ℕ) (products : Kept) → slice_get (replicate count (kept (length atoms) [])) number ≡ Some products
      → products ≡ kept (length atoms) []
  nothing_at zero number products at = absurd (none-some products at)
  nothing_at (suc count) zero products at = sym (same_Some (kept (length atoms) []) products at)
  nothing_at (suc count) (suc number) products at = nothing_at count number products at

  nothing_kept : (count number : ℕ) → sets_at (replicate count (kept (length atoms) [])) number ≡ []
  nothing_kept zero number = refl
  nothing_kept (suc count) zero = refl
  nothing_kept (suc count) (suc number) = nothing_kept count number

  -- so many rounds have been
  abbrev pub AreAfter : ℕ → List Kept → Type 0
  AreAfter rounds supplies = AreSupplies atoms supplies × AreRounds patterns atoms rounds supplies

  pub after_none : (count : ℕ) (supplies : List Kept) → count ≡ length atoms → supplies ≡ replicate count (kept count []) → AreAfter 0 supplies
  after_none count supplies same is = subst (AreAfter 0) (sym (is ∙ ap (λ n. replicate n (kept n [])) same)) (
    record {
      each = length-replicate (length atoms) (kept (length atoms) []);
      counts = λ number products at. ap (λ (it : Kept). it.count) (nothing_at (length atoms) number products at);
      kept = λ number products at. subst (λ (it : Kept). AreOver it.count it.sets × IsAntichain it.sets) (sym (nothing_at (length atoms) number products at))
          ((λ k d below. absurd (omega (arith, below))), (λ i j d less below. absurd (omega (arith, below))));
    },
    (λ set number. (λ h. absurd (covers_none set (subst (λ it. Covers it set) (nothing_kept (length atoms) number) h)), λ h. absurd h)),
  )

  pub after_more : (rounds : ℕ) (before after : List Kept) → AreAfter rounds before → AreSupplies atoms after → AreOneRound patterns atoms before after
      → AreAfter (rounds + 1) after
  after_more rounds before after (_, so_far) are round = subst (λ n. AreAfter n after) (sym (add-one rounds)) (
    are,
    λ set number. (
      λ h. next_more patterns atoms set (IsSupplied before set) (InRounds patterns atoms set rounds) (λ other. (so_far set other).0) number
          ((round set number).0 h),
      λ h. (round set number).1 (next_more patterns atoms set (InRounds patterns atoms set rounds) (IsSupplied before set) (λ other. (so_far set other).1)
          number h),
    ),
  )

  -- as many rounds as there are atoms tell what is reached
  pub all_tell : RoundsAreEnough → (rounds : ℕ) → rounds ≡ length atoms → (supplies : List Kept) → AreRounds patterns atoms rounds supplies
      → TellAllReached patterns atoms supplies
  all_tell enough rounds all supplies so_far set over number =
      let reached = enough patterns atoms set over number in (
        λ h. reached.0 (subst (λ n. InRounds patterns atoms set n number) all ((so_far set number).0 h)),
        λ h. (so_far set number).1 (subst (λ n. InRounds patterns atoms set n number) (sym all) (reached.1 h)),
      )

  -- and so does a round that adds nothing
  pub last_tells : LastRoundIsEnough → (rounds : ℕ) (before after : List Kept) → AreRounds patterns atoms rounds before
      → AreOneRound patterns atoms before after → AddNothing before after → TellAllReached patterns atoms after
  last_tells enough rounds before after so_far round nothing set over number =
      let reached = enough patterns atoms set over rounds (λ other h. (so_far set other).0 (nothing set other ((round set other).1 (back other h)))) number in (
        λ h. reached.0 (next_more patterns atoms set (IsSupplied before set) (InRounds patterns atoms set rounds) (λ it. (so_far set it).0) number
            ((round set number).0 h)),
        λ h. (round set number).1 (back number (reached.1 h)),
      )
    where
      back : (other : ℕ) → InRounds patterns atoms set (suc rounds) other → IsNextIn patterns atoms set (IsSupplied before set) other
      back other = next_more patterns atoms set (InRounds patterns atoms set rounds) (IsSupplied before set) (λ it. (so_far set it).1) other

  module _ (supplies : List Kept) (are : AreSupplies atoms supplies) (tell : TellAllReached patterns atoms supplies) (number : ℕ) (products : Kept)
      (at : slice_get supplies number ≡ Some products) where
    pub product_tells : TellHolds (length atoms) (IsReachedIn patterns atoms number) products.sets
    product_tells set over =
        let own = sets_there supplies number products at in (
          λ h. (tell set over number).0 (subst (λ it. Covers it set) (sym own) h),
          λ h. subst (λ it. Covers it set) own ((tell set over number).1 h),
        )

    pub product_count : products.count ≡ length atoms
    product_count = are.counts number products at

    pub product_least : AreAccessProducts patterns atoms number products.sets
    product_least =
        let keeps = are.kept number products at in
        antichain_is_minimal (length atoms) (IsReachedIn patterns atoms number) (λ set reached. reached.over) products.sets
        (subst (λ n. AreOver n products.sets) (are.counts number products at) keeps.0) product_tells keeps.1

-- ---- whether a round adds anything

-- nothing is added at the first few numbers
abbrev pub AddNothingBelow : List Kept → List Kept → ℕ → Type 0
AddNothingBelow before after count = (number : ℕ) → number < count → (set : List Bool) → IsSupplied after set number → IsSupplied before set number

module _ (before after : List Kept) (number : ℕ) (own other : Kept) (at : slice_get before number ≡ Some own) (at' : slice_get after number ≡ Some other) where
  pub nothing_here : ((set : List Bool) → Covers other.sets set → Covers own.sets set) → (set : List Bool) → IsSupplied after set number
      → IsSupplied before set number
  nothing_here covers set supplied =
      subst (λ it. Covers it set) (sym (sets_there before number own at))
      (covers set (subst (λ it. Covers it set) (sets_there after number other at') supplied))

  pub here_nothing : AddNothing before after → (set : List Bool) → Covers other.sets set → Covers own.sets set
  here_nothing nothing set covered =
      subst (λ it. Covers it set) (sets_there before number own at)
      (nothing set number (subst (λ it. Covers it set) (sym (sets_there after number other at')) covered))

pub nothing_at_all : (before after : List Kept) (count : ℕ) → length after ≤ count → AddNothingBelow before after count → AddNothing before after
nothing_at_all before after count l so_far set number supplied =
    let from = supplied_from after set number supplied in so_far number (omega (arith, l, slice_get_within after number from.0 from.1)) set supplied
