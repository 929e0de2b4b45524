-- Rows of codes in which the codes after the first tell the first, by a walk along an index of keys.
use Rattle.std.proofs.Common.{◌≡◌, ◌↔◌, inl, inr, ℕ, ◌+◌, ◌<◌, ◌≤◌, Bool, true, false, List, [], ◌∷◌, ◌++◌, map, length, take, drop, Some, slice_get, Contains}
use Rattle.std.proofs.Common.{refl, sym, ap, ◌∙◌, subst, arith, IsTrue}
use Rattle.std.proofs.lemmas.Bool.{cases_order, false≢true}
use Rattle.std.proofs.lemmas.List.{map-append, length-map, take_all, take-append-drop}
use Rattle.std.proofs.lemmas.List.Elements.{Contains-push_cases}
use Rattle.std.proofs.lemmas.Option.{same_Some, slice_get_within}
use Rattle.esto_term.proofs.ListLemmas.{map_at, place-from_Contains, at_left, thing_at, Contains-at}
use Rattle.esto_term.proofs.PlaceLemmas.{take-there}
use Rattle.esto_columns.specs.Indexed.{Index, IsIndexOf, LeadsOn, bucket_of}
use Rattle.esto_columns.proofs.IndexLemmas.{OwnsLast}
use Rattle.esto_rows.specs.Told.{IsContrary, HasNoContrary, AreTold, ShowsApart}

-- ---- an index of keys

-- one more row
pub keys_more : (rows : List (List ℕ)) (at : ℕ) (row given key : List ℕ) (index new : Index) → slice_get rows at ≡ Some row → given ≡ row → key ≡ drop 1 given
    → IsIndexOf index (map (drop 1) (take at rows))
    → ((listed : List (List ℕ)) → IsIndexOf index listed → IsIndexOf new (listed ++ key ∷ [])) → IsIndexOf new (map (drop 1) (take (at + 1) rows))
keys_more rows at row given key index new there same is before added =
    subst (IsIndexOf new)
    (ap (λ it. map (drop 1) (take at rows) ++ it ∷ []) (is ∙ ap (drop 1) same) ∙ sym (map-append (drop 1) (take at rows) (row ∷ []))
    ∙ ap (map (drop 1)) (sym (take-there rows at row there)))
    (added (map (drop 1) (take at rows)) before)

-- ---- a walk along the chain of a row's key, from its last place to its first

module _ (rows : List (List ℕ)) (row : List ℕ) (count : ℕ) where
  abbrev key_buckets : List ℕ
  key_buckets = map (bucket_of count) (map (drop 1) rows)

  -- none of the places from `next` on has a contrary row, and the place before `next`, if there is one, is of the key's bucket
  pub record Walked (next : ℕ) : Type 0 where
    pub own : OwnsLast key_buckets (bucket_of count (drop 1 row)) next
    pub none : (place : ℕ) (other : List ℕ) → next ≤ place → slice_get rows place ≡ Some other → IsContrary row other → ⊥

  key_bucket : (place : ℕ) (other : List ℕ) → slice_get rows place ≡ Some other → IsContrary row other
      → slice_get key_buckets place ≡ Some (bucket_of count (drop 1 row))
  key_bucket place other at contrary =
      map_at (bucket_of count) (map (drop 1) rows) place (drop 1 other) (map_at (drop 1) rows place other at)
      ∙ ap (λ key. Some (bucket_of count key)) (sym (same_key row other contrary))
    where
      same_key : (row other : List ℕ) → IsContrary row other → drop 1 row ≡ drop 1 other
      same_key [] other contrary = absurd contrary
      same_key (code ∷ key) [] contrary = absurd contrary
      same_key (code ∷ key) (more ∷ rest) contrary = contrary.1

  pub walk_start : (next : ℕ) → LeadsOn key_buckets (bucket_of count (drop 1 row)) (length key_buckets) next → Walked next
  walk_start next leads = record {
    own = leads.own;
    none = λ place other past at contrary.
        let here = key_bucket place other at contrary in
        let below = leads.past place (slice_get_within key_buckets place (bucket_of count (drop 1 row)) here) here in
        omega (arith, below, past);
  }

  -- the place before `next` is one of the rows'
  pub walk_there : (next place : ℕ) → place + 1 ≡ next → Walked next → place < length rows
  walk_there next place is walked =
      let within = slice_get_within key_buckets place (bucket_of count (drop 1 row)) (walked.own place is) in
      let outer = length-map (map (drop 1) rows) (bucket_of count) in
      let inner = length-map rows (drop 1) in omega (arith, within, outer, inner)

  pub walk_on : (next place then : ℕ) (found : List ℕ) → place + 1 ≡ next → LeadsOn key_buckets (bucket_of count (drop 1 row)) place then
      → slice_get rows place ≡ Some found → (IsContrary row found → ⊥) → Walked next → Walked then
  walk_on next place then found is leads here apart walked = record {
    own = leads.own;
    none = λ some other past at contrary. elim (cases_order some place) [
      | inl same ↦
          let there : found ≡ other = same_Some found other (sym here ∙ ap (slice_get rows) (sym same) ∙ at) in
          apart (subst (IsContrary row) (sym there) contrary)
      | inr (inl under) ↦ let below = leads.past some under (key_bucket some other at contrary) in omega (arith, below, past)
      | inr (inr above) ↦ walked.none some other (omega (arith, is, above)) at contrary
    ];
  }

  pub walk_end : (next : ℕ) → next ≤ 0 → Walked next → ((other : List ℕ) × Contains rows other × IsContrary row other) → ⊥
  walk_end next end walked (other, inside, contrary) =
      let found = place-from_Contains rows other inside in walked.none found.0 other (omega (arith, end)) found.1 contrary

-- ---- rows that are told

contrary_turned : (row other : List ℕ) → IsContrary row other → IsContrary other row
contrary_turned [] other contrary = absurd contrary
contrary_turned (code ∷ key) [] contrary = absurd contrary
contrary_turned (code ∷ key) (more ∷ rest) contrary = (λ is. contrary.0 (sym is), sym contrary.1)

contrary_other : (row : List ℕ) → IsContrary row row → ⊥
contrary_other [] contrary = contrary
contrary_other (code ∷ key) contrary = contrary.0 refl

-- one more row, with none contrary before it
told_pushed : (rows : List (List ℕ)) (row : List ℕ) → AreTold rows → HasNoContrary rows row → AreTold (rows ++ row ∷ [])
told_pushed rows row told none one inside other within contrary = elim (Contains-push_cases rows row one inside) [
  | inl early ↦ elim (Contains-push_cases rows row other within) [
    | inl also ↦ told one early other also contrary
    | inr here ↦ none one early (contrary_turned one row (subst (IsContrary one) (sym here) contrary))
  ]
  | inr here ↦ elim (Contains-push_cases rows row other within) [
    | inl also ↦ none other also (subst (λ it. IsContrary it other) (sym here) contrary)
    | inr both ↦ contrary_other row (subst (IsContrary row) (sym both) (subst (λ it. IsContrary it other) (sym here) contrary))
  ]
]

-- a row before the place, in both lists
pub taken_there : (rows : List (List ℕ)) (at place : ℕ) → place < length (take at rows)
    → (row : List ℕ) × (slice_get (take at rows) place ≡ Some row) × (slice_get rows place ≡ Some row)
taken_there rows at place within =
    let found = thing_at (take at rows) place within in (
      found.0,
      found.1,
      subst (λ them. slice_get them place ≡ Some found.0) (take-append-drop at rows)
          (at_left (take at rows) (drop at rows) place found.0 found.1),
    )

pub below_all : (rows : List (List ℕ)) (at place : ℕ) → place < length (take at rows) → place < length rows
below_all rows at place within = let found = taken_there rows at place within in slice_get_within rows place found.0 found.2

pub taken_same : (rows : List (List ℕ)) (at place : ℕ) (row : List ℕ) → place < length (take at rows) → slice_get rows place ≡ Some row
    → slice_get (take at rows) place ≡ Some row
taken_same rows at place row within there =
    let found = taken_there rows at place within in found.1 ∙ ap Some (same_Some found.0 row (sym found.2 ∙ there))

pub shows_apart : (rows : List (List ℕ)) (at : ℕ) (row given : List ℕ) (answer : Bool) → slice_get rows at ≡ Some row → given ≡ row
    → IsTrue answer ↔ ((more : List ℕ) × Contains (take at rows) more × IsContrary given more) → AreTold (take at rows) → ShowsApart rows at answer
shows_apart rows at row given true there same told before = λ all.
    let found = told.0 refl in
    let early = place-from_Contains (take at rows) found.0 found.1 in
    let whole = taken_there rows at early.0 (slice_get_within (take at rows) early.0 found.0 early.1) in
    let is : whole.0 ≡ found.0 = same_Some whole.0 found.0 (sym whole.1 ∙ early.1) in
    all row (Contains-at rows at row there) found.0 (subst (Contains rows) is (Contains-at rows early.0 whole.0 whole.2))
    (subst (λ it. IsContrary it found.0) same found.2)
shows_apart rows at row given false there same told before =
    subst AreTold (sym (take-there rows at row there)) (told_pushed (take at rows) row before
    (λ more inside contrary. false≢true (told.1 (more, inside, subst (λ it. IsContrary it more) (sym same) contrary))))

pub told_all : (rows : List (List ℕ)) (at : ℕ) → length rows ≤ at → AreTold (take at rows) → AreTold rows
told_all rows at past before = subst AreTold (take_all at rows past) before
