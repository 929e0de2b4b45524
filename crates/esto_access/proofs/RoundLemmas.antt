-- As many rounds as there are atoms reach exactly the accessible part.
use Rattle.std.proofs.Common.{◌≡◌, ℕ, zero, suc, ◌<◌, ◌≤◌, Bool, true, List, ◌∷◌, [], ◌++◌, length, Some, slice_get, slice_set, Contains, refl, sym, ◌∙◌, subst}
use Rattle.std.proofs.Common.{arith, inl, inr}
use Rattle.std.proofs.lemmas.Bool.Decides.{Decides-eqb}
use Rattle.std.proofs.lemmas.Map.Made.{IsDistinct-from_AllPairs}
use Rattle.std.proofs.lemmas.Map.Steps.{length-le_from_distinct_below}
use Rattle.std.proofs.lemmas.Map.Views.{Contains-from_any}
use Rattle.std.proofs.lemmas.Option.{same_Some, slice_get_within}
use Rattle.esto_term.specs.declared.term.Term.{Term}
use Rattle.esto_semantics.specs.declared.fact.Fact.{Fact}
use Rattle.esto_term.specs.Sets.{Has, Within}
use Rattle.esto_semantics.specs.Access.{Patterns, IsAccessible, IsEarlier, IsOrder, IsAccessiblePart}
use Rattle.esto_semantics.specs.AccessLaws.{PartExists}
use Rattle.esto_term.proofs.ListLemmas.{Contains-at, place-from_Contains, thing_at}
use Rattle.esto_semantics.proofs.AccessLemmas.{accessible_more, order_grows}
use Rattle.esto_term.proofs.SetLemmas.{decided_has, has_set, Has-within}
use Rattle.esto_access.specs.Rounds.{IsNextIn, InRounds, RoundsAreEnough, LastRoundIsEnough}

module _ (patterns : Patterns) (atoms : List (Fact Term)) (set : List Bool) where
  -- what is next after chosen atoms is next after more of them
  pub next_more : (P Q : ℕ → Type 0) → ((number : ℕ) → P number → Q number) → (number : ℕ) → IsNextIn patterns atoms set P number
      → IsNextIn patterns atoms set Q number
  next_more P Q more number (has, (atom, at, accessible)) = (has, (atom, at, accessible_more patterns atoms P Q more atom accessible))

  module _ (part : List Bool) (is_part : IsAccessiblePart patterns atoms set part) where
    -- the accessible part has what is next after it
    next_in_part : (number : ℕ) → IsNextIn patterns atoms set (Has part) number → Has part number
    next_in_part number (has, (atom, at, accessible)) = elim (decided_has part number) [
      | inl there ↦ there
      | inr absent ↦ grown (slice_get_within atoms number atom at) absent
    ]
      where
        grown : number < length atoms → (Has part number → ⊥) → Has part number
        grown l absent =
            let inside : number < length part = omega (arith, l, (is_part.executable.1).over) in
            is_part.greatest (slice_set part number true) (
              is_part.executable.0 ++ number ∷ [],
              order_grows patterns atoms part is_part.executable.0 number is_part.executable.1 l absent
                  (λ other at_other. subst (IsAccessible patterns atoms (Has part)) (same_Some atom other (sym at ∙ at_other)) accessible),
            )
            (λ other h. elim ((has_set part number inside other).0 h) [ inl e ↦ subst (Has set) e has | inr there ↦ is_part.within other there ])
            number ((has_set part number inside number).1 (inl refl))

    pub rounds_in_part : (rounds number : ℕ) → InRounds patterns atoms set rounds number → Has part number
    rounds_in_part zero number h = absurd h
    rounds_in_part (suc rounds) number h = next_in_part number (next_more (InRounds patterns atoms set rounds) (Has part) (rounds_in_part rounds) number h)

  module _ (other : List Bool) (order : List ℕ) (is_order : IsOrder patterns atoms other order) where
    -- the numbers of an order of a subset are reached in as many rounds as there are places up to theirs
    pub order_in_rounds : Within other set → (rounds place number : ℕ) → place < rounds → slice_get order place ≡ Some number
        → InRounds patterns atoms set rounds number
    order_in_rounds within zero place number l e = absurd (omega (arith, l))
    order_in_rounds within (suc rounds) place number l e =
        let there : Has other number = (is_order.names number).0 (Contains-at order place number e) in
        let found = thing_at atoms number (subst (λ n. number < n) is_order.over (Has-within other number there)) in (
          within number there,
          (
            found.0,
            found.1,
            accessible_more patterns atoms (IsEarlier order place) (InRounds patterns atoms set rounds)
                (λ earlier h. order_in_rounds within rounds h.0 earlier (omega (arith, h.1, l)) h.2) found.0
                (is_order.accessible place number found.0 e found.1),
          ),
        )

    -- the numbers of an order of a subset are all in what nothing is next after
    pub order_in_closed : Within other set → (P : ℕ → Type 0) → ((number : ℕ) → IsNextIn patterns atoms set P number → P number)
        → (bound place number : ℕ) → place < bound → slice_get order place ≡ Some number → P number
    order_in_closed within P closed zero place number l e = absurd (omega (arith, l))
    order_in_closed within P closed (suc bound) place number l e =
        let there : Has other number = (is_order.names number).0 (Contains-at order place number e) in
        let found = thing_at atoms number (subst (λ n. number < n) is_order.over (Has-within other number there)) in
        closed number (
          within number there,
          (
            found.0,
            found.1,
            accessible_more patterns atoms (IsEarlier order place) P
                (λ earlier h. order_in_closed within P closed bound h.0 earlier (omega (arith, h.1, l)) h.2) found.0
                (is_order.accessible place number found.0 e found.1),
          ),
        )

    -- and so they are reached in the last round
    pub order_in_last : Within other set → (rounds : ℕ)
        → ((number : ℕ) → InRounds patterns atoms set (suc rounds) number → InRounds patterns atoms set rounds number)
        → (place number : ℕ) → slice_get order place ≡ Some number → InRounds patterns atoms set (suc rounds) number
    order_in_last within rounds closed place number e =
        let there : Has other number = (is_order.names number).0 (Contains-at order place number e) in
        let found = thing_at atoms number (subst (λ n. number < n) is_order.over (Has-within other number there)) in (
          within number there,
          (
            found.0,
            found.1,
            accessible_more patterns atoms (IsEarlier order place) (InRounds patterns atoms set rounds)
                (λ earlier h. order_in_closed within (InRounds patterns atoms set rounds) closed (suc h.0) h.0 earlier (omega arith) h.2) found.0
                (is_order.accessible place number found.0 e found.1),
          ),
        )

    pub order_is_short : length order ≤ length atoms
    order_is_short = length-le_from_distinct_below order (length atoms) (IsDistinct-from_AllPairs Decides-eqb order is_order.once)
        (λ number told. below number (Contains-from_any (λ x y same. (Decides-eqb x y).0 same) number order told))
      where
        below : (number : ℕ) → Contains order number → number < length atoms
        below number inside = subst (λ n. number < n) is_order.over (Has-within other number ((is_order.names number).0 inside))

pub rounds_are_enough : PartExists → RoundsAreEnough
rounds_are_enough exist patterns atoms set over number = (
  λ reached. let part = exist patterns atoms set in record
      { over = over; part = part.0; is_part = part.1; has = rounds_in_part patterns atoms set part.0 part.1 (length atoms) number reached },
  λ reached.
      let order = ((reached.is_part).executable).0 in
      let is_order = ((reached.is_part).executable).1 in
      let at = place-from_Contains order number ((is_order.names number).1 reached.has) in
      let short = order_is_short patterns atoms set reached.part order is_order in
      let below = slice_get_within order at.0 number at.1 in
      order_in_rounds patterns atoms set reached.part order is_order (reached.is_part).within (length atoms) at.0 number (omega (arith, below, short)) at.1,
)

pub last_round_is_enough : PartExists → LastRoundIsEnough
last_round_is_enough exist patterns atoms set over rounds closed number = (
  λ reached. let part = exist patterns atoms set in record
      { over = over; part = part.0; is_part = part.1; has = rounds_in_part patterns atoms set part.0 part.1 (suc rounds) number reached },
  λ reached.
      let order = ((reached.is_part).executable).0 in
      let is_order = ((reached.is_part).executable).1 in
      let at = place-from_Contains order number ((is_order.names number).1 reached.has) in
      order_in_last patterns atoms set reached.part order is_order (reached.is_part).within rounds closed at.0 number at.1,
)
