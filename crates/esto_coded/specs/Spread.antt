-- For private clauses: codes that spread from some terms of a match to all terms of its atoms, one atom after the other.
use Rattle.std.specs.Prelude.{◌≡◌, ◌⊎◌, ℕ, List, [], Some, slice_get, nat_eq, Contains, IsTrue}
use Rattle.std.specs.Set.{is_member}
use Rattle.esto_term.specs.declared.term.Term.{Term}
use Rattle.esto_semantics.specs.Facts.{image, Mentions}
use Rattle.esto_semantics.specs.Maps.{Sends}
use Rattle.esto_semantics.specs.declared.fact.Fact.{Fact}
use Rattle.esto_rows.specs.Wanted.{are_among}
use Rattle.esto_coded.specs.Coded.{Coded, IsCodeOf, AreTelling, StandFor}

-- The term is one of the leading ones, or it stands in one of the atoms.
abbrev pub IsReached : List Term → List (Fact Term) → Term → Type 0
IsReached lead atoms term = Contains lead term ⊎ Mentions atoms term

-- Each of the columns has one of the terms, which is reached.
abbrev pub AreReached : List Term → List (Fact Term) → List Term → List ℕ → Type 0
AreReached lead atoms terms columns =
    (column : ℕ) → Contains columns column → (term : Term) × (slice_get terms column ≡ Some term) × IsReached lead atoms term

-- Each code that the row has in one of the columns is among the codes.
abbrev pub Passes : List ℕ → List ℕ → List ℕ → Type 0
Passes columns row codes =
    (column : ℕ) → Contains columns column → (code : ℕ) → slice_get row column ≡ Some code → IsTrue (is_member nat_eq codes code)

-- The codes of those of the rows that pass have come to the old ones.
pub record TakesPassing (columns : List ℕ) (rows : List (List ℕ)) (old new : List ℕ) : Type 0 where
  pub here : (row : List ℕ) → Contains rows row → Passes columns row old → IsTrue (are_among new row)
  pub stay : (other : List ℕ) → IsTrue (are_among old other) → IsTrue (are_among new other)

-- The codes have that of what the map makes of each reached term.
abbrev pub HaveReached : List (List ℕ) → List Term → List (Fact Term) → (Term → Term) → List ℕ → Type 0
HaveReached texts lead atoms m codes =
    (term : Term) → IsReached lead atoms term → (code : ℕ) → IsCodeOf texts (m term) code → IsTrue (is_member nat_eq codes code)

-- If the old codes have those of the reached terms, those of the atom's terms have come to them, for whatever sends the atom to a fact.
pub record Reaches (coded : Coded) (lead : List Term) (before : List (Fact Term)) (atom : Fact Term) (old new : List ℕ) : Type 0 where
  pub here : AreTelling coded.texts → (facts : List (Fact Term)) → StandFor coded facts → (m : Term → Term) → Contains facts (image m atom)
      → HaveReached coded.texts lead before m old → (term : Term) → Contains atom.terms term → (code : ℕ) → IsCodeOf coded.texts (m term) code
      → IsTrue (is_member nat_eq new code)
  pub stay : (other : List ℕ) → IsTrue (are_among old other) → IsTrue (are_among new other)

-- If the old codes have those of the leading terms, the new ones have those of all terms of the atoms, for whatever sends the atoms to facts.
abbrev pub Spreads : Coded → List Term → List (Fact Term) → List ℕ → List ℕ → Type 0
Spreads coded lead atoms old new =
    AreTelling coded.texts → (facts : List (Fact Term)) → StandFor coded facts → (m : Term → Term) → Sends m atoms facts
    → HaveReached coded.texts lead [] m old → HaveReached coded.texts lead atoms m new
