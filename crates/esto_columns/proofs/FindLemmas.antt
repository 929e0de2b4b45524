-- Rows that are found by an index of them.
use Rattle.std.proofs.Common.{◌≡◌, inl, inr, ℕ, ◌+◌, ◌<◌, ◌≤◌, List, [], ◌∷◌, ◌++◌, map, length, get_or, take, Some, slice_get, Contains, sym, ap, ◌∙◌}
use Rattle.std.proofs.Common.{subst, arith}
use Rattle.std.proofs.lemmas.Bool.{cases_order}
use Rattle.std.proofs.lemmas.List.{ext_get_or}
use Rattle.std.proofs.lemmas.List.Elements.{Contains-get_or}
use Rattle.std.proofs.lemmas.Option.{same_Some, slice_get_within, slice_get-get_or}
use Rattle.esto_term.proofs.ListLemmas.{place-from_Contains, map_at}
use Rattle.esto_term.proofs.PlaceLemmas.{earlier_or_last, take-there}
use Rattle.esto_columns.specs.Columns.{HaveLength}
use Rattle.esto_columns.specs.Indexed.{Index, LeadsOn, IsIndexOf, bucket_of}
use Rattle.esto_columns.specs.RowIndexes.{StandsLast}
use Rattle.esto_columns.proofs.IndexLemmas.{OwnsLast}

-- ---- an index

-- one more row
pub own_more : (rows : List (List ℕ)) (at : ℕ) (row given : List ℕ) (index new : Index) → slice_get rows at ≡ Some row → given ≡ row
    → IsIndexOf index (take at rows)
    → ((listed : List (List ℕ)) → IsIndexOf index listed → IsIndexOf new (listed ++ given ∷ [])) → IsIndexOf new (take (at + 1) rows)
own_more rows at row given index new there same before added =
    subst (IsIndexOf new) (ap (λ it. take at rows ++ it ∷ []) same ∙ sym (take-there rows at row there)) (added (take at rows) before)

-- ---- a walk along the chain of a row's bucket, from its last place to its first

module _ (rows : List (List ℕ)) (row : List ℕ) (count : ℕ) where
  abbrev buckets : List ℕ
  buckets = map (bucket_of count) rows

  -- none of the places from `next` on holds the row, and the place before `next`, if there is one, is of its bucket
  pub record Sought (next : ℕ) : Type 0 where
    pub own : OwnsLast buckets (bucket_of count row) next
    pub none : (place : ℕ) → next ≤ place → slice_get rows place ≡ Some row → ⊥

  own_bucket : (place : ℕ) → slice_get rows place ≡ Some row → slice_get buckets place ≡ Some (bucket_of count row)
  own_bucket place at = map_at (bucket_of count) rows place row at

  pub seek_start : (next : ℕ) → LeadsOn buckets (bucket_of count row) (length buckets) next → Sought next
  seek_start next leads = record {
    own = leads.own;
    none = λ place past at.
        let here = own_bucket place at in
        let below = leads.past place (slice_get_within buckets place (bucket_of count row) here) here in
        omega (arith, below, past);
  }

  pub seek_on : (next place then : ℕ) → place + 1 ≡ next → LeadsOn buckets (bucket_of count row) place then
      → (slice_get rows place ≡ Some row → ⊥) → Sought next → Sought then
  seek_on next place then is leads other sought = record {
    own = leads.own;
    none = λ some past at. elim (cases_order some place) [
      | inl same ↦ other (ap (slice_get rows) (sym same) ∙ at)
      | inr (inl under) ↦ let below = leads.past some under (own_bucket some at) in omega (arith, below, past)
      | inr (inr above) ↦ sought.none some (omega (arith, is, above)) at
    ];
  }

  pub seek_found : (next place : ℕ) → place + 1 ≡ next → slice_get rows place ≡ Some row → Sought next → StandsLast rows row place
  seek_found next place is at sought = record { at = at; last = λ later past there. sought.none later (omega (arith, is, past)) there }

  pub seek_end : (next : ℕ) → next ≤ 0 → Sought next → Contains rows row → ⊥
  seek_end next end sought inside = let found = place-from_Contains rows row inside in sought.none found.0 (omega (arith, end)) found.1

-- ---- a row that stands at a place

-- a row with these codes stands there
pub codes_there : (rows : List (List ℕ)) (place arity : ℕ) (row : List ℕ) → place < length rows → HaveLength arity rows → length row ≡ arity
    → ((column : ℕ) → column < arity → get_or (get_or rows place []) column 0 ≡ get_or row column 0) → slice_get rows place ≡ Some row
codes_there rows place arity row below long own same =
    let width = long (get_or rows place []) (Contains-get_or rows place [] below) in
    slice_get-get_or rows place [] below
    ∙ ap Some (ext_get_or 0 (get_or rows place []) row (width ∙ sym own) (λ column within. same column (omega (arith, within, width))))

-- ---- the codes of the row at a place, column by column

pub code_there : (rows : List (List ℕ)) (place column : ℕ) (codes : List ℕ) (code : ℕ) → place < length rows
    → codes ≡ map (λ row. get_or row column 0) rows → slice_get codes place ≡ Some code → code ≡ get_or (get_or rows place []) column 0
code_there rows place column codes code within are at =
    same_Some code (get_or (get_or rows place []) column 0)
    (sym at ∙ ap (λ them. slice_get them place) are
    ∙ map_at (λ row. get_or row column 0) rows place (get_or rows place []) (slice_get-get_or rows place [] within))

pub columns_more : (rows : List (List ℕ)) (place : ℕ) (row : List ℕ) (column : ℕ)
    → ((other : ℕ) → other < column → get_or (get_or rows place []) other 0 ≡ get_or row other 0)
    → get_or (get_or rows place []) column 0 ≡ get_or row column 0
    → (other : ℕ) → other < column + 1 → get_or (get_or rows place []) other 0 ≡ get_or row other 0
columns_more rows place row column before here other below = elim (earlier_or_last other column below) [
  | inl earlier ↦ before other earlier
  | inr same ↦ subst (λ it. get_or (get_or rows place []) it 0 ≡ get_or row it 0) (sym same) here
]
