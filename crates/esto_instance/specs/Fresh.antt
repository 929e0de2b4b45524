-- An index of facts, and which facts of a list are not there yet.
use Rattle.std.specs.Prelude.{◌≡◌, ◌≢◌, ◌⊎◌, ◌↔◌, ℕ, ◌+◌, ◌≤◌, ◌<◌, Bool, true, false, List, length, take, slice_get, slice_index_or, Some, Contains}
use Rattle.std.specs.Cmp.Lexicographic.{slice_cmp}
use Rattle.std.specs.Ordering.{nat_cmp, ordering_then}
use Rattle.std.specs.declared.cmp.Ordering.{Ordering}
use Rattle.std.specs.declared.cmp.Ordering.TheVariants.{Less}
use Rattle.esto_term.specs.Order.{term_cmp}
use Rattle.esto_term.specs.declared.term.Term.{Term}
use Rattle.esto_semantics.specs.declared.fact.Fact.{Fact}
use Rattle.esto_instance.specs.declared.fresh.Entry.{Entry}

-- The order of facts.
abbrev pub fact_cmp : Fact Term → Fact Term → Ordering
fact_cmp fact other = ordering_then (nat_cmp fact.relation other.relation) (slice_cmp term_cmp fact.terms other.terms)

-- The order of entries.
abbrev pub entry_cmp : Entry → Entry → Ordering
entry_cmp entry other = ordering_then (fact_cmp entry.fact.now other.fact.now) (nat_cmp entry.rank other.rank)

-- The entry has that fact and that rank.
abbrev pub IsEntry : Fact Term → ℕ → Entry → Type 0
IsEntry fact rank entry = (entry.fact.now ≡ fact) × (entry.rank ≡ rank)

-- One of the entries does.
abbrev pub HasEntry : List Entry → Fact Term → ℕ → Type 0
HasEntry entries fact rank = (entry : Entry) × Contains entries entry × IsEntry fact rank entry

-- The fact was there before, and the rank is 0.
abbrev pub IsOld : List (Fact Term) → Fact Term → ℕ → Type 0
IsOld facts fact rank = Contains facts fact × (rank ≡ 0)

-- The fact is the further one whose place is one less than the rank.
abbrev pub IsNew : List (Fact Term) → Fact Term → ℕ → Type 0
IsNew more fact rank = (place : ℕ) × (slice_get more place ≡ Some fact) × (rank ≡ place + 1)

-- The new entries are the old ones, and for each fact and rank that are so one that has them.
pub record Adds (IsSo : Fact Term → ℕ → Type 0) (old new : List Entry) : Type 0 where
  pub kept : (entry : Entry) → Contains old entry → Contains new entry
  pub has : (fact : Fact Term) (rank : ℕ) → IsSo fact rank → HasEntry new fact rank
  pub only : (entry : Entry) → Contains new entry → Contains old entry ⊎ IsSo entry.fact.now entry.rank

-- The fact with that rank was there before, or is one of the further ones.
abbrev pub IsListed : List (Fact Term) → List (Fact Term) → Fact Term → ℕ → Type 0
IsListed facts more fact rank = IsOld facts fact rank ⊎ IsNew more fact rank

-- These are the entries of the facts that were there before, and of the further ones.
pub record AreEntries (facts more : List (Fact Term)) (entries : List Entry) : Type 0 where
  pub has : (fact : Fact Term) (rank : ℕ) → IsListed facts more fact rank → HasEntry entries fact rank
  pub only : (entry : Entry) → Contains entries entry → IsListed facts more entry.fact.now entry.rank

-- No entry comes after a greater one.
abbrev pub IsInOrder : List Entry → Type 0
IsInOrder index =
    (i j : ℕ) (d : Entry) → i ≤ j → j < length index → entry_cmp (slice_index_or index j d) (slice_index_or index i d) ≢ Less

-- Where the fact has an entry, this is the least rank of its entries.
abbrev pub IsFirstRank : List Entry → Fact Term → ℕ → Type 0
IsFirstRank index fact rank =
    (other : ℕ) → HasEntry index fact other → HasEntry index fact rank × (rank ≤ other)

-- The fact was there before, or is earlier among the further facts than the place.
abbrev pub IsEarlier : List (Fact Term) → List (Fact Term) → ℕ → Fact Term → Type 0
IsEarlier facts more place fact = Contains facts fact ⊎ Contains (take place more) fact

-- Each of the further facts has a mark, which is true exactly where the fact is fresh: it was not there before, nor is earlier among them.
pub record AreFresh (facts more : List (Fact Term)) (marks : List Bool) : Type 0 where
  pub for_each : length marks ≡ length more
  pub exact : (place : ℕ) (fact : Fact Term) → slice_get more place ≡ Some fact
      → (slice_index_or marks place false ≡ true) ↔ ¬ (IsEarlier facts more place fact)
