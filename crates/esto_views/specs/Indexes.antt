-- An index of terms.
use Rattle.std.specs.Prelude.{◌≡◌, ◌≢◌, ℕ, ◌≤◌, ◌<◌, List, length, take, slice_get, slice_index_or, Some, Contains}
use Rattle.std.specs.Ordering.{nat_cmp, ordering_then}
use Rattle.std.specs.declared.cmp.Ordering.{Ordering}
use Rattle.std.specs.declared.cmp.Ordering.TheVariants.{Less}
use Rattle.esto_term.specs.Order.{term_cmp}
use Rattle.esto_term.specs.declared.term.Term.{Term}
use Rattle.esto_views.specs.declared.index.Entry.{Entry}

-- The order of entries.
abbrev pub entry_cmp : Entry → Entry → Ordering
entry_cmp entry other = ordering_then (term_cmp entry.term.now other.term.now) (nat_cmp entry.place other.place)

-- One of the entries has that term and that place.
abbrev pub HasEntry : List Entry → Term → ℕ → Type 0
HasEntry entries term place = (entry : Entry) × Contains entries entry × (entry.term.now ≡ term) × (entry.place ≡ place)

-- These are the entries of the terms.
pub record AreEntries (terms : List Term) (entries : List Entry) : Type 0 where
  pub has : (place : ℕ) (term : Term) → slice_get terms place ≡ Some term → HasEntry entries term place
  pub only : (entry : Entry) → Contains entries entry → slice_get terms entry.place ≡ Some entry.term.now

-- No entry comes after a greater one.
abbrev pub IsInOrder : List Entry → Type 0
IsInOrder index =
    (i j : ℕ) (d : Entry) → i ≤ j → j < length index → entry_cmp (slice_index_or index j d) (slice_index_or index i d) ≢ Less

-- These are the entries of the terms, in order.
pub record IsIndex (terms : List Term) (index : List Entry) : Type 0 where
  pub entries : AreEntries terms index
  pub in_order : IsInOrder index

-- No entry has the term.
abbrev pub HasNoEntry : List Entry → Term → Type 0
HasNoEntry index term = (place : ℕ) → ¬ (HasEntry index term place)

-- The place is the least of the term's entries.
abbrev pub IsFirstEntry : List Entry → Term → ℕ → Type 0
IsFirstEntry index term place = HasEntry index term place × ((other : ℕ) → HasEntry index term other → place ≤ other)

-- The term stands at the place, and at none before it.
abbrev pub IsFirstPlace : List Term → Term → ℕ → Type 0
IsFirstPlace terms term place = (slice_get terms place ≡ Some term) × ¬ (Contains (take place terms) term)
