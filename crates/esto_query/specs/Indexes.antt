-- An index of a list of facts: buckets of places by relations, and a table of places by terms in columns.
use Rattle.std.specs.Prelude.{◌≡◌, ℕ, ◌<◌, true, List, Some, length, slice_get, Contains}
use Rattle.esto_term.specs.declared.term.Term.{Term}
use Rattle.esto_term.specs.declared.term.Term.TheVariants.{Const}
use Rattle.esto_semantics.specs.Facts.{image}
use Rattle.esto_semantics.specs.Maps.{Keeps}
use Rattle.esto_semantics.specs.declared.fact.Fact.{Fact}
use Rattle.esto_table.specs.Buckets.{places_at, AreRising}
use Rattle.esto_table.specs.Marks.{is_among}
use Rattle.esto_table.specs.Numbers.{AreInOrder, IsNumber, key_of}
use Rattle.esto_table.specs.Places.{IsRising}
use Rattle.esto_table.specs.Tables.{entry_of, IsTable}
use Rattle.esto_semantics.specs.Valuations.{Assignment, Extends}
use Rattle.esto_table.specs.declared.marks.Marks.{Marks}
use Rattle.esto_query.specs.declared.index.Index.{Index}
use Rattle.esto_table.specs.declared.entry.Entry.{Entry}
use Rattle.esto_table.specs.declared.table.Table.{Table}

-- The term stands in the column of the fact at the place, and the column is one of the columns.
pub record StandsIn (facts : List (Fact Term)) (columns : Marks) (place column : ℕ) (fact : Fact Term) (term : Term) : Type 0 where
  pub there : slice_get facts place ≡ Some fact
  pub own : slice_get fact.terms column ≡ Some term
  pub among : is_among columns fact.relation column ≡ true

-- The entries have the place under the key of the term in the column of the relation.
abbrev pub HasPlace : List Entry → List Term → ℕ → ℕ → Term → ℕ → Type 0
HasPlace entries names relation column term place =
    (number : ℕ) → IsNumber names term number → Contains entries (entry_of (key_of relation column number) place)

-- The new entries are the old ones, and those of the place by each of the first terms of the fact that stand in one of the columns.
pub record AddsTerms (fact : Fact Term) (columns : Marks) (names : List Term) (place bound : ℕ) (old new : List Entry) : Type 0 where
  pub kept : (entry : Entry) → Contains old entry → Contains new entry
  pub added : (column : ℕ) (term : Term) → column < bound → slice_get fact.terms column ≡ Some term → is_among columns fact.relation column ≡ true
      → HasPlace new names fact.relation column term place

-- The buckets have the place of each of the first facts by its relation.
pub record AreInBuckets (facts : List (Fact Term)) (bound : ℕ) (relations : List (List ℕ)) : Type 0 where
  pub has : (place : ℕ) (fact : Fact Term) → place < bound → slice_get facts place ≡ Some fact → Contains (places_at relations fact.relation) place
  pub rising : AreRising relations bound

-- The entries have the place of each of the first facts by its term in each of the columns.
abbrev pub AreListed : List (Fact Term) → Marks → List Term → ℕ → List Entry → Type 0
AreListed facts columns names bound terms =
    (place column : ℕ) (fact : Fact Term) (term : Term) → place < bound → StandsIn facts columns place column fact term
    → HasPlace terms names fact.relation column term place

-- The table has the place of each fact by its term in each of the columns.
abbrev pub IsTableOf : List (Fact Term) → Marks → List Term → Table → Type 0
IsTableOf facts columns names table = (terms : List Entry) × IsTable terms table × AreListed facts columns names (length facts) terms

-- The index has the places of all facts.
pub record IsIndex (facts : List (Fact Term)) (index : Index) : Type 0 where
  pub relations : AreInBuckets facts (length facts) index.relations
  pub names : AreInOrder index.names.items
  pub terms : IsTableOf facts index.columns index.names.items index.terms

-- Each place to which a map that extends the known valuation can send the atom is there, and the places rise.
pub record AreCandidates (facts : List (Fact Term)) (atom : Fact Term) (known : Assignment) (places : List ℕ) : Type 0 where
  pub complete : (m : Term → Term) (place : ℕ) → Keeps Const m → Extends m known → slice_get facts place ≡ Some (image m atom) → Contains places place
  pub rising : IsRising places
