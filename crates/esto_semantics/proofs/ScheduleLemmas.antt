-- Orders from lists that may name a number more than once: where each is accessible after the earlier ones, taking each number
-- once, where it first stands, gives an order.
use Rattle.std.proofs.Common.{◌≡◌, ◌≢◌, ◌⊎◌, ◌↔◌, inl, inr, zero, suc, ℕ, ◌==◌, Bool, true, false, cond, List, [], ◌∷◌, map, length, get_or, slice_get}
use Rattle.std.proofs.Common.{Contains, Some, refl, sym, ap, ◌∙◌, subst, arith}
use Rattle.std.specs.Bool.{Decides}
use Rattle.std.specs.List.{AllPairs}
use Rattle.std.proofs.lemmas.Bool.Decides.{Decides-eqb}
use Rattle.std.proofs.lemmas.List.Elements.{Contains-get_or}
use Rattle.std.proofs.lemmas.List.Kept.{AllPairs-cons}
use Rattle.esto_term.specs.declared.term.Term.{Term}
use Rattle.esto_term.specs.declared.term.Term.TheVariants.{Const}
use Rattle.esto_semantics.specs.Access.{Patterns, HasPattern, IsBound, IsAccessible, IsEarlier, IsOrder}
use Rattle.esto_semantics.specs.Facts.{image}
use Rattle.esto_semantics.specs.Maps.{Keeps}
use Rattle.esto_term.specs.Sets.{Has}
use Rattle.esto_semantics.specs.declared.fact.Fact.{Fact}
use Rattle.esto_term.proofs.SetLemmas.{Has-within}
use Rattle.esto_term.proofs.ListLemmas.{Contains-at, Contains-cases, Contains-head, Contains-map, Contains-nil, Contains-rest, map_at, map_at-from, thing_at}

-- ---- whether a list has a number

abbrev pub has_number : List ℕ → ℕ → Bool
has_number [] number = false
has_number (first ∷ rest) number = cond (first == number) true (has_number rest number)

pub has_number-Decides : (numbers : List ℕ) (number : ℕ) → Decides (has_number numbers number) (Contains numbers number)
has_number-Decides [] number = ((λ told. absurd (cc)), (λ inside. absurd (Contains-nil number inside)))
has_number-Decides (first ∷ rest) number = by (has_number-Decides rest number) (first == number) refl
  where
    by : Decides (has_number rest number) (Contains rest number) → (answer : Bool) → (first == number) ≡ answer
        → Decides (cond answer true (has_number rest number)) (Contains (first ∷ rest) number)
    by later true told = ((λ _. subst (Contains (first ∷ rest)) ((Decides-eqb first number).0 told) (Contains-head first rest)), (λ _. refl))
    by later false told = (
      (λ found. Contains-rest first rest number (later.0 found)),
      (λ inside. elim (Contains-cases first rest number inside) [
        | inl is ↦ let wrong : true ≡ false = sym ((Decides-eqb first number).1 is) ∙ told in cc
        | inr further ↦ later.1 further
      ]),
    )

-- ---- earlier places

IsEarlier-cases : (first : ℕ) (rest : List ℕ) (place number : ℕ) → IsEarlier (first ∷ rest) (suc place) number → (first ≡ number) ⊎ IsEarlier rest place number
IsEarlier-cases first rest place number (zero, below, at) = inl (cc)
IsEarlier-cases first rest place number (suc earlier, below, at) = inr (earlier, omega arith, at)

IsEarlier-first : (first : ℕ) (rest : List ℕ) (place number : ℕ) → first ≡ number → IsEarlier (first ∷ rest) (suc place) number
IsEarlier-first first rest place number is = (0, omega arith, ap Some is)

IsEarlier-rest : (first : ℕ) (rest : List ℕ) (place number : ℕ) → IsEarlier rest place number → IsEarlier (first ∷ rest) (suc place) number
IsEarlier-rest first rest place number (earlier, below, at) = (suc earlier, omega arith, at)

-- ---- each number once

-- the numbers that have not been seen, each where it first stands
abbrev pub once_each : List ℕ → List ℕ → List ℕ
once_each seen [] = []
once_each seen (first ∷ rest) = cond (has_number seen first) (once_each seen rest) (first ∷ once_each (first ∷ seen) rest)

once_each-from : (seen numbers : List ℕ) (number : ℕ) → Contains (once_each seen numbers) number → Contains numbers number × (Contains seen number → ⊥)
once_each-from seen [] number inside = absurd (Contains-nil number inside)
once_each-from seen (first ∷ rest) number inside =
    by (once_each-from seen rest number) (once_each-from (first ∷ seen) rest number) (has_number seen first) refl inside
  where
    by : (Contains (once_each seen rest) number → Contains rest number × (Contains seen number → ⊥))
        → (Contains (once_each (first ∷ seen) rest) number → Contains rest number × (Contains (first ∷ seen) number → ⊥))
        → (answer : Bool) → has_number seen first ≡ answer → Contains (cond answer (once_each seen rest) (first ∷ once_each (first ∷ seen) rest)) number
        → Contains (first ∷ rest) number × (Contains seen number → ⊥)
    by old new true told kept = let found = old kept in (Contains-rest first rest number found.0, found.1)
    by old new false told kept = elim (Contains-cases first (once_each (first ∷ seen) rest) number kept) [
      | inl is ↦ (
        subst (Contains (first ∷ rest)) is (Contains-head first rest),
        (λ before. let wrong : true ≡ false = sym ((has_number-Decides seen first).1 (subst (Contains seen) (sym is) before)) ∙ told in cc),
      )
      | inr later ↦ let found = new later in (Contains-rest first rest number found.0, λ before. found.1 (Contains-rest first seen number before))
    ]

once_each-has : (seen numbers : List ℕ) (number : ℕ) → Contains numbers number → Contains seen number ⊎ Contains (once_each seen numbers) number
once_each-has seen [] number inside = absurd (Contains-nil number inside)
once_each-has seen (first ∷ rest) number inside = by (once_each-has seen rest number) (once_each-has (first ∷ seen) rest number) (has_number seen first) refl
  where
    by : (Contains rest number → Contains seen number ⊎ Contains (once_each seen rest) number)
        → (Contains rest number → Contains (first ∷ seen) number ⊎ Contains (once_each (first ∷ seen) rest) number)
        → (answer : Bool) → has_number seen first ≡ answer
        → Contains seen number ⊎ Contains (cond answer (once_each seen rest) (first ∷ once_each (first ∷ seen) rest)) number
    by old new true told = elim (Contains-cases first rest number inside) [
      | inl is ↦ inl (subst (Contains seen) is ((has_number-Decides seen first).0 told))
      | inr later ↦ old later
    ]
    by old new false told = elim (Contains-cases first rest number inside) [
      | inl is ↦ inr (subst (Contains (first ∷ once_each (first ∷ seen) rest)) is (Contains-head first (once_each (first ∷ seen) rest)))
      | inr later ↦ elim (new later) [
        | inl before ↦ elim (Contains-cases first seen number before) [
          | inl is ↦ inr (subst (Contains (first ∷ once_each (first ∷ seen) rest)) is (Contains-head first (once_each (first ∷ seen) rest)))
          | inr earlier ↦ inl earlier
        ]
        | inr after ↦ inr (Contains-rest first (once_each (first ∷ seen) rest) number after)
      ]
    ]

once_each-once : (seen numbers : List ℕ) → AllPairs {X = ℕ} ◌≢◌ (once_each seen numbers)
once_each-once seen [] = λ i j d less within. absurd (omega arith)
once_each-once seen (first ∷ rest) = by (once_each-once seen rest) (once_each-once (first ∷ seen) rest) (has_number seen first)
  where
    by : AllPairs {X = ℕ} ◌≢◌ (once_each seen rest) → AllPairs {X = ℕ} ◌≢◌ (once_each (first ∷ seen) rest) → (answer : Bool)
        → AllPairs {X = ℕ} ◌≢◌ (cond answer (once_each seen rest) (first ∷ once_each (first ∷ seen) rest))
    by old new true = old
    by old new false = AllPairs-cons ◌≢◌ first (once_each (first ∷ seen) rest)
        (λ k d within is. (once_each-from (first ∷ seen) rest (get_or (once_each (first ∷ seen) rest) k d)
        (Contains-get_or (once_each (first ∷ seen) rest) k d within)).1
        (subst (Contains (first ∷ seen)) is (Contains-head first seen))) new

-- the number at a place stands in the given list where all earlier numbers have been seen or come earlier
abbrev StandsSo : List ℕ → List ℕ → List ℕ → ℕ → ℕ → Type 0
StandsSo seen numbers once place number =
    (at : ℕ) × (slice_get numbers at ≡ Some number) × ((other : ℕ) → IsEarlier numbers at other → Contains seen other ⊎ IsEarlier once place other)

once_each-earlier : (seen numbers : List ℕ) (place number : ℕ) → slice_get (once_each seen numbers) place ≡ Some number
    → StandsSo seen numbers (once_each seen numbers) place number
once_each-earlier seen [] place number at = absurd (cc)
once_each-earlier seen (first ∷ rest) place number at =
    by (once_each-earlier seen rest) (once_each-earlier (first ∷ seen) rest) (has_number seen first) refl place at
  where
    by : ((place number : ℕ) → slice_get (once_each seen rest) place ≡ Some number → StandsSo seen rest (once_each seen rest) place number)
        → ((place number : ℕ) → slice_get (once_each (first ∷ seen) rest) place ≡ Some number
        → StandsSo (first ∷ seen) rest (once_each (first ∷ seen) rest) place number)
        → (answer : Bool) → has_number seen first ≡ answer → (place : ℕ)
        → slice_get (cond answer (once_each seen rest) (first ∷ once_each (first ∷ seen) rest)) place ≡ Some number
        → StandsSo seen (first ∷ rest) (cond answer (once_each seen rest) (first ∷ once_each (first ∷ seen) rest)) place number
    by old new true told place at =
        let found = old place number at in (
          suc found.0,
          found.1,
          (λ other before. elim (IsEarlier-cases first rest found.0 other before) [
            | inl is ↦ inl (subst (Contains seen) is ((has_number-Decides seen first).0 told))
            | inr earlier ↦ found.2 other earlier
          ]),
        )
    by old new false told zero at = (0, at, λ other before. absurd (omega (arith, before.1)))
    by old new false told (suc place) at =
        let found = new place number at in (
          suc found.0,
          found.1,
          (λ other before. elim (IsEarlier-cases first rest found.0 other before) [
            | inl is ↦ inr (IsEarlier-first first (once_each (first ∷ seen) rest) place other is)
            | inr earlier ↦ elim (found.2 other earlier) [
              | inl seen_so_far ↦ elim (Contains-cases first seen other seen_so_far) [
                | inl is ↦ inr (IsEarlier-first first (once_each (first ∷ seen) rest) place other is)
                | inr in_seen ↦ inl in_seen
              ]
              | inr in_once ↦ inr (IsEarlier-rest first (once_each (first ∷ seen) rest) place other in_once)
            ]
          ]),
        )

-- ---- orders

IsAccessible-more : (patterns : Patterns) (atoms : List (Fact Term)) (Chosen More : ℕ → Type 0) (atom : Fact Term)
    → ((number : ℕ) → Chosen number → More number)
    → IsAccessible patterns atoms Chosen atom → IsAccessible patterns atoms More atom
IsAccessible-more patterns atoms Chosen More atom more (pattern, has_pattern, meets) = (
  pattern,
  has_pattern,
  λ column term input at. elim (meets column term input at) [
    | inl constant ↦ inl constant
    | inr (number, is_chosen, occurs) ↦ inr (number, more number is_chosen, occurs)
  ],
)

IsOrder-from_schedule : (patterns : Patterns) (atoms : List (Fact Term)) (set : List Bool) (numbers : List ℕ) → length set ≡ length atoms
    → ((number : ℕ) → Contains numbers number ↔ Has set number)
    → ((place number : ℕ) (atom : Fact Term) → slice_get numbers place ≡ Some number → slice_get atoms number ≡ Some atom
    → IsAccessible patterns atoms (IsEarlier numbers place) atom)
    → IsOrder patterns atoms set (once_each [] numbers)
IsOrder-from_schedule patterns atoms set numbers over names accessible = record {
  over = over;
  names = λ number. (
    (λ inside. (names number).0 (once_each-from [] numbers number inside).0),
    (λ has. unseen number (once_each-has [] numbers number ((names number).1 has))),
  );
  once = once_each-once [] numbers;
  accessible = λ place number atom at at_atom.
      let found = once_each-earlier [] numbers place number at in
      IsAccessible-more patterns atoms (IsEarlier numbers found.0) (IsEarlier (once_each [] numbers) place) atom
      (λ other before. unseen_earlier place other (found.2 other before))
      (accessible found.0 number atom found.1 at_atom);
}
  where
    unseen : (number : ℕ) → Contains [] number ⊎ Contains (once_each [] numbers) number → Contains (once_each [] numbers) number
    unseen number (inl seen) = absurd (Contains-nil number seen)
    unseen number (inr inside) = inside

    unseen_earlier : (place other : ℕ) → Contains [] other ⊎ IsEarlier (once_each [] numbers) place other → IsEarlier (once_each [] numbers) place other
    unseen_earlier place other (inl seen) = absurd (Contains-nil other seen)
    unseen_earlier place other (inr before) = before

-- ---- orders of moved atoms

module _ (patterns : Patterns) (atoms : List (Fact Term)) (set : List Bool) where
  -- a number of an order is that of an atom
  pub atom_in_order : (order : List ℕ) → IsOrder patterns atoms set order → (number : ℕ) → Contains order number
      → (atom : Fact Term) × (slice_get atoms number ≡ Some atom)
  atom_in_order order is_order number inside =
      let below = Has-within set number ((is_order.names number).0 inside) in
      let over : length set ≡ length atoms = is_order.over in
      thing_at atoms number (omega arith)

module _ (patterns : Patterns) (atoms others : List (Fact Term)) (set : List Bool) (m : Term → Term) (keeps : Keeps Const m) (place_of : ℕ → ℕ)
    (moves : (number : ℕ) (atom : Fact Term) → Has set number → slice_get atoms number ≡ Some atom → slice_get others (place_of number) ≡ Some (image m atom))
    (order : List ℕ) (is_order : IsOrder patterns atoms set order) where
  -- what is bound in the order is bound at the places that its numbers move to
  bound_moved : (place : ℕ) (term goes : Term) → m term ≡ goes → IsBound atoms (IsEarlier order place) term
      → IsBound others (IsEarlier (map place_of order) place) goes
  bound_moved place term goes there (inl (text, is)) = inl (text, sym there ∙ ap m is ∙ keeps text)
  bound_moved place term goes there (inr (number, (earlier, below, at), (atom, at_atom, occurs))) = inr (
    place_of number,
    (earlier, below, map_at place_of order earlier number at),
    (
      image m atom,
      moves number atom ((is_order.names number).0 (Contains-at order earlier number at)) at_atom,
      subst (Contains (map m atom.terms)) there (Contains-map m atom.terms term occurs),
    ),
  )

  accessible_moved : (place number : ℕ) (atom : Fact Term) → slice_get (map place_of order) place ≡ Some number → slice_get others number ≡ Some atom
      → IsAccessible patterns others (IsEarlier (map place_of order) place) atom
  accessible_moved place number atom at at_atom =
      let from = map_at-from place_of order place number at in
      let in_order = Contains-at order place from.0 from.1 in
      let own = atom_in_order patterns atoms set order is_order from.0 in_order in
      let at_place : slice_get others (place_of from.0) ≡ Some atom = ap (slice_get others) from.2 ∙ at_atom in
      let own_at : slice_get others (place_of from.0) ≡ Some (image m own.0) = moves from.0 own.0 ((is_order.names from.0).0 in_order) own.1 in
      let same : atom ≡ image m own.0 = cc in
      let way = is_order.accessible place from.0 own.0 from.1 own.1 in (
        way.0,
        subst (λ (it : Fact Term). HasPattern patterns it.relation way.0) (sym same) way.1,
        λ column term input at_term.
            let before = map_at-from m own.0.terms column term (subst (λ (it : Fact Term). slice_get it.terms column ≡ Some term) same at_term) in
            bound_moved place before.0 term before.2 (way.2 column before.0 input before.1),
      )

  -- the places that an order's numbers move to give an order of the set of these places
  pub IsOrder-moved : (other_set : List Bool) → length other_set ≡ length others → ((number : ℕ) → Contains (map place_of order) number ↔ Has other_set number)
      → IsOrder patterns others other_set (once_each [] (map place_of order))
  IsOrder-moved other_set over names = IsOrder-from_schedule patterns others other_set (map place_of order) over names accessible_moved
