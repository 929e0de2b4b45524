-- Lists of distinct things: what their maps reach, and when one is another in a different order.
use Rattle.std.proofs.Common.{◌≡◌, ◌≢◌, ◌⊎◌, inl, inr, suc, ◌≤◌, List, [], ◌∷◌, ◌++◌, map, length, Contains, refl, sym, ap, ◌∙◌, subst, arith}
use Rattle.std.specs.List.{AllPairs}
use Rattle.std.specs.List.Sorted.{IsPermutation}
use Rattle.std.proofs.lemmas.List.{append_assoc}
use Rattle.std.proofs.lemmas.List.Elements.{Contains-append_cases, Contains-append_left, Contains-append_right}
use Rattle.std.proofs.lemmas.List.Sorted.{IsPermutation-refl, IsPermutation-sym, IsPermutation-cons, IsPermutation-middle, IsPermutation-trans}
use Rattle.esto_term.proofs.ChoiceLemmas.{Decided, pairs_cons, pairs_head, pairs_tail}
use Rattle.esto_term.proofs.ListLemmas.{Contains-nil, Contains-head, Contains-rest, Contains-cases, Contains-map_from}

-- no two of the things are one
abbrev pub Distinct : {X : Type 0} → List X → Type 0
Distinct {X} things = AllPairs {X = X} ◌≢◌ things

-- each of the things is among the others
abbrev pub Among : {X : Type 0} → List X → List X → Type 0
Among {X} things others = (thing : X) → Contains things thing → Contains others thing

module _ {X : Type 0} where
  pub distinct_head : (first : X) (rest : List X) (thing : X) → Distinct (first ∷ rest) → Contains rest thing → first ≡ thing → ⊥
  distinct_head first rest thing distinct inside = pairs_head ◌≢◌ first rest distinct thing inside

  pub distinct_rest : (first : X) (rest : List X) → Distinct (first ∷ rest) → Distinct rest
  distinct_rest first rest distinct = pairs_tail ◌≢◌ first rest distinct

  pub distinct_none : Distinct {X = X} []
  distinct_none = λ i j d less within. absurd (omega (arith, within))

  pub distinct_cons : (first : X) (rest : List X) → (Contains rest first → ⊥) → Distinct rest → Distinct (first ∷ rest)
  distinct_cons first rest new distinct = pairs_cons ◌≢◌ first rest (λ thing inside is. new (subst (Contains rest) (sym is) inside)) distinct

  -- ---- what stands before and after a thing

  -- what a list contains stands between the rest of it
  pub split : (things : List X) (thing : X) → Contains things thing → (front : List X) × (back : List X) × (things ≡ front ++ thing ∷ back)
  split [] thing inside = absurd (Contains-nil thing inside)
  split (first ∷ rest) thing inside = elim (Contains-cases first rest thing inside) [
    | inl is ↦ ([], rest, ap (λ it. it ∷ rest) is)
    | inr later ↦ let found = split rest thing later in (first ∷ found.0, found.1, ap (λ others. first ∷ others) found.2)
  ]

  pub length_split : (front back : List X) (thing : X) → length (front ++ thing ∷ back) ≡ suc (length (front ++ back))
  length_split [] back thing = refl
  length_split (first ∷ front) back thing = ap suc (length_split front back thing)

  -- what is in a list is the one thing or in the rest
  pub split_cases : (front back : List X) (thing other : X) → Contains (front ++ thing ∷ back) other → (thing ≡ other) ⊎ Contains (front ++ back) other
  split_cases front back thing other inside = elim (Contains-append_cases front (thing ∷ back) other inside) [
    | inl left ↦ inr (Contains-append_left front back other left)
    | inr behind ↦ elim (Contains-cases thing back other behind) [
      | inl is ↦ inl is
      | inr right ↦ inr (Contains-append_right front back other right)
    ]
  ]

  pub split_more : (front back : List X) (thing other : X) → Contains (front ++ back) other → Contains (front ++ thing ∷ back) other
  split_more front back thing other inside = elim (Contains-append_cases front back other inside) [
    | inl left ↦ Contains-append_left front (thing ∷ back) other left
    | inr right ↦ Contains-append_right front (thing ∷ back) other (Contains-rest thing back other right)
  ]

  pub split_thing : (front back : List X) (thing : X) → Contains (front ++ thing ∷ back) thing
  split_thing front back thing = Contains-append_right front (thing ∷ back) thing (Contains-head thing back)

  pub after_push : (before : List X) (thing : X) (rest : List X) → (before ++ thing ∷ []) ++ rest ≡ before ++ thing ∷ rest
  after_push before thing rest = append_assoc before (thing ∷ []) rest

  -- things are distinct where each is outside the rest
  pub distinct-from_splits : (things : List X)
      → ((front back : List X) (thing : X) → things ≡ front ++ thing ∷ back → Contains (front ++ back) thing → ⊥) → Distinct things
  distinct-from_splits [] apart = distinct_none
  distinct-from_splits (first ∷ rest) apart =
      distinct_cons first rest (λ inside. apart [] rest first refl inside)
      (distinct-from_splits rest (λ front back thing is inside.
      apart (first ∷ front) back thing (ap (λ others. first ∷ others) is) (Contains-rest first (front ++ back) thing inside)))

  -- ---- the rest of distinct things

  pub outside : (front back : List X) (thing : X) → Distinct (front ++ thing ∷ back) → Contains (front ++ back) thing → ⊥
  outside [] back thing distinct inside = distinct_head thing back thing distinct inside refl
  outside (first ∷ front) back thing distinct inside = elim (Contains-cases first (front ++ back) thing inside) [
    | inl is ↦ distinct_head first (front ++ thing ∷ back) thing distinct (split_thing front back thing) is
    | inr later ↦ outside front back thing (distinct_rest first (front ++ thing ∷ back) distinct) later
  ]

  pub distinct_without : (front back : List X) (thing : X) → Distinct (front ++ thing ∷ back) → Distinct (front ++ back)
  distinct_without [] back thing distinct = distinct_rest thing back distinct
  distinct_without (first ∷ front) back thing distinct =
      distinct_cons first (front ++ back)
      (λ inside. distinct_head first (front ++ thing ∷ back) first distinct (split_more front back thing first inside) refl)
      (distinct_without front back thing (distinct_rest first (front ++ thing ∷ back) distinct))

  -- distinct things with what another list of distinct things has are its things in a different order
  pub permutation-from_same : (things others : List X) → Distinct things → Distinct others
      → Among things others → Among others things → IsPermutation things others
  permutation-from_same [] [] distinct apart there back = IsPermutation-refl []
  permutation-from_same [] (other ∷ others) distinct apart there back = absurd (Contains-nil other (back other (Contains-head other others)))
  permutation-from_same (first ∷ rest) others distinct apart there back =
      let parts = split others first (there first (Contains-head first rest)) in
      by parts.0 parts.1 parts.2 (permutation-from_same rest (parts.0 ++ parts.1) (distinct_rest first rest distinct)
      (distinct_without parts.0 parts.1 first (subst Distinct parts.2 apart))
      (λ thing inside. in_rest parts.0 parts.1 parts.2 thing inside)
      (λ thing inside. from_rest parts.0 parts.1 parts.2 thing inside))
    where
      by : (front last : List X) → others ≡ front ++ first ∷ last → IsPermutation rest (front ++ last) → IsPermutation (first ∷ rest) others
      by front last whole permutes =
          subst (IsPermutation (first ∷ rest)) (sym whole)
          (IsPermutation-trans (first ∷ rest) (first ∷ (front ++ last)) (front ++ first ∷ last) (IsPermutation-cons first rest (front ++ last) permutes)
          (IsPermutation-sym (front ++ first ∷ last) (first ∷ (front ++ last)) (IsPermutation-middle front first last)))

      in_rest : (front last : List X) → others ≡ front ++ first ∷ last → (thing : X) → Contains rest thing → Contains (front ++ last) thing
      in_rest front last whole thing inside =
          elim (split_cases front last first thing (subst (λ all. Contains all thing) whole (there thing (Contains-rest first rest thing inside)))) [
            | inl is ↦ absurd (distinct_head first rest thing distinct inside is)
            | inr left ↦ left
          ]

      from_rest : (front last : List X) → others ≡ front ++ first ∷ last → (thing : X) → Contains (front ++ last) thing → Contains rest thing
      from_rest front last whole thing inside =
          elim (Contains-cases first rest thing (back thing (subst (λ all. Contains all thing) (sym whole) (split_more front last first thing inside)))) [
            | inl is ↦ absurd (outside front last first (subst Distinct whole apart) (subst (Contains (front ++ last)) (sym is) inside))
            | inr later ↦ later
          ]

  -- ---- maps of finitely many things

  -- each of the things is reached from one of the others
  abbrev pub Reaches : (X → X) → List X → List X → Type 0
  Reaches h others things = (thing : X) → Contains things thing → (other : X) × Contains others other × (h other ≡ thing)

  -- distinct things, each of which is reached from one of the others, are no more than the others
  pub no_more : (h : X → X) (things others : List X) → Distinct things → Reaches h others things → length things ≤ length others
  no_more h [] others distinct from = omega arith
  no_more h (first ∷ rest) others distinct from =
      let source = from first (Contains-head first rest) in
      let parts = split others source.0 source.1 in
      let left = distinct_rest first rest distinct in
      let further = no_more h rest (parts.0 ++ parts.1) left (λ thing inside. left_over thing inside source.0 source.2 parts.0 parts.1 parts.2) in
      let count : length others ≡ suc (length (parts.0 ++ parts.1)) = ap length parts.2 ∙ length_split parts.0 parts.1 source.0 in
      omega (arith, further, count)
    where
      left_over : (thing : X) → Contains rest thing → (other : X) → h other ≡ first → (front back : List X) → others ≡ front ++ other ∷ back
          → (again : X) × Contains (front ++ back) again × (h again ≡ thing)
      left_over thing inside other is front back whole =
          let source = from thing (Contains-rest first rest thing inside) in
          elim (split_cases front back other source.0 (subst (λ all. Contains all source.0) whole source.1)) [
            | inl same ↦ absurd (distinct_head first rest thing distinct inside (sym is ∙ ap h same ∙ source.2))
            | inr left ↦ (source.0, left, source.2)
          ]

  -- distinct things that are all among others are no more than the others
  pub no_more_than : (things others : List X) → Distinct things → Among things others → length things ≤ length others
  no_more_than things others distinct among = no_more (λ thing. thing) things others distinct (λ thing inside. (thing, among thing inside, refl))

  module _ (decide : (thing other : X) → Decided (thing ≡ other)) where
    pub decided_contains : (things : List X) (thing : X) → Decided (Contains things thing)
    decided_contains [] thing = inr (Contains-nil thing)
    decided_contains (first ∷ rest) thing = elim (decide first thing) [
      | inl is ↦ inl (subst (Contains (first ∷ rest)) is (Contains-head first rest))
      | inr apart ↦ elim (decided_contains rest thing) [
        | inl later ↦ inl (Contains-rest first rest thing later)
        | inr none ↦ inr (λ inside. elim (Contains-cases first rest thing inside) [ inl is ↦ apart is | inr later ↦ none later ])
      ]
    ]

    abbrev HasOnce : List X → Type 0
    HasOnce things = (distinct : List X) × Distinct distinct × Among distinct things × Among things distinct

    -- the things of a list, each once
    once : (things : List X) → HasOnce things
    once [] = ([], distinct_none, (λ thing inside. inside), (λ thing inside. inside))
    once (first ∷ rest) = by (once rest) (decided_contains rest first)
      where
        by : HasOnce rest → Decided (Contains rest first) → HasOnce (first ∷ rest)
        by (distinct, apart, there, back) (inl again) = (
          distinct,
          apart,
          (λ thing inside. Contains-rest first rest thing (there thing inside)),
          (λ thing inside. elim (Contains-cases first rest thing inside) [
            | inl is ↦ back thing (subst (Contains rest) is again)
            | inr later ↦ back thing later
          ]),
        )
        by (distinct, apart, there, back) (inr new) = (
          first ∷ distinct,
          distinct_cons first distinct (λ inside. new (there first inside)) apart,
          (λ thing inside. elim (Contains-cases first distinct thing inside) [
            | inl is ↦ subst (Contains (first ∷ rest)) is (Contains-head first rest)
            | inr later ↦ Contains-rest first rest thing (there thing later)
          ]),
          (λ thing inside. elim (Contains-cases first rest thing inside) [
            | inl is ↦ subst (Contains (first ∷ distinct)) is (Contains-head first distinct)
            | inr later ↦ Contains-rest first distinct thing (back thing later)
          ]),
        )

    -- a map by which each of finitely many things is reached from one of them tells them apart
    pub one_to_one : (things : List X) (h : X → X) → Reaches h things things
        → (left right : X) → Contains things left → Contains things right → h left ≡ h right → left ≡ right
    one_to_one things h onto left right left_in right_in same = by (once things) (decide left right)
      where
        by : HasOnce things → Decided (left ≡ right) → left ≡ right
        by all (inl is) = is
        by (distinct, apart, there, back) (inr differ) =
            let parts = split distinct right (back right right_in) in
            let again = λ (thing : X) (inside : Contains distinct thing). source parts.0 parts.1 parts.2 thing (onto thing (there thing inside)) in
            let fewer = no_more h distinct (parts.0 ++ parts.1) apart again in
            let count : length distinct ≡ suc (length (parts.0 ++ parts.1)) = ap length parts.2 ∙ length_split parts.0 parts.1 right in
            absurd (omega (arith, fewer, count))
          where
            within : (front last : List X) → distinct ≡ front ++ right ∷ last
                → (thing : X) → Contains things thing → (right ≡ thing) ⊎ Contains (front ++ last) thing
            within front last whole thing inside =
                split_cases front last right thing (subst (λ all. Contains all thing) whole (back thing inside))

            source : (front last : List X) → distinct ≡ front ++ right ∷ last → (thing : X) → (other : X) × Contains things other × (h other ≡ thing)
                → (other : X) × Contains (front ++ last) other × (h other ≡ thing)
            source front last whole thing (other, inside, is) = elim (within front last whole other inside) [
              | inr left_over ↦ (other, left_over, is)
              | inl here ↦ elim (within front last whole left left_in) [
                | inl wrong ↦ absurd (differ (sym wrong))
                | inr left_over ↦ (left, left_over, same ∙ ap h here ∙ is)
              ]
            ]

module _ {X Y : Type 0} (m : X → Y) where
  -- a map that tells distinct things apart makes distinct things of them
  pub distinct_map : (things : List X) → ((thing other : X) → Contains things thing → Contains things other → m thing ≡ m other → thing ≡ other)
      → Distinct things → Distinct (map m things)
  distinct_map [] apart distinct = distinct_none
  distinct_map (first ∷ rest) apart distinct =
      pairs_cons ◌≢◌ (m first) (map m rest) (λ image inside is. new image inside is)
      (distinct_map rest (λ thing other inside outside. apart thing other (Contains-rest first rest thing inside) (Contains-rest first rest other outside))
      (distinct_rest first rest distinct))
    where
      new : (image : Y) → Contains (map m rest) image → m first ≡ image → ⊥
      new image inside is =
          let from = Contains-map_from m rest image inside in
          let same : first ≡ from.0 = apart first from.0 (Contains-head first rest) (Contains-rest first rest from.0 from.1) (is ∙ sym from.2) in
          distinct_head first rest from.0 distinct from.1 same
