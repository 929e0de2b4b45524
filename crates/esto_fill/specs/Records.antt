-- The match of a rule in print: the values of the rule's named variables.
use Rattle.std.specs.Prelude.{◌≡◌, ℕ, Bool, true, false, List, [], ◌∷◌, ◌++◌, codes, decimal, filter, map, slice_get, Option, Some, None}
use Rattle.esto_query.specs.declared.query.Name.{Name}
use Rattle.esto_query.specs.declared.query.Name.TheVariants.{Given, Hidden}
use Rattle.esto_relmodel.specs.Once.{AreEachOnce}
use Rattle.esto_semantics.specs.Facts.{terms_of}
use Rattle.esto_semantics.specs.declared.fact.Fact.{Fact}
use Rattle.esto_stores.specs.Rows.{Row}
use Rattle.esto_term.specs.declared.term.Term.{Term, out-Term}
use Rattle.esto_term.specs.declared.term.Term.TheOpen.{Term-F}

-- A name that is given.
abbrev pub is_given : Option Name → Bool
is_given (Some (Given name)) = true
is_given (Some Hidden) = false
is_given None = false

-- A term by its kind: a variable that has a given name.
abbrev pub is_named_kind : List Name → Term-F Term → Bool
is_named_kind names (Term-F.Const _) = false
is_named_kind names (Term-F.Plain variable) = is_given (slice_get names variable)
is_named_kind names (Term-F.Made _ _ _) = false

-- The term is a variable that has a given name.
abbrev pub is_named : List Name → Term → Bool
is_named names term = is_named_kind names (out-Term term)

-- The cell of a value, by the term's kind: a constant's text, and `#` with the number of a node. No fact of a dataset has a made term.
abbrev pub cell_by_kind : Term-F Term → List ℕ
cell_by_kind (Term-F.Const text) = text
cell_by_kind (Term-F.Plain node) = codes "#" ++ decimal node
cell_by_kind (Term-F.Made _ _ _) = []

-- The cell of a value.
abbrev pub cell_of : Term → List ℕ
cell_of term = cell_by_kind (out-Term term)

-- The cells; one empty cell where there is none.
abbrev pub one_at_least : Row → Row
one_at_least [] = [] ∷ []
one_at_least (cell ∷ cells) = cell ∷ cells

-- The named variables of the body, each once, in order of first occurrence.
abbrev pub AreNamedVariables : List Name → List (Fact Term) → List Term → Type 0
AreNamedVariables names body variables = AreEachOnce (filter (is_named names) (terms_of body)) variables

-- The record has the values that the map gives the named variables of the body, in order of first occurrence, or one empty cell where the body has none.
abbrev pub IsRecordOf : List Name → List (Fact Term) → (Term → Term) → Row → Type 0
IsRecordOf names body m cells =
    (variables : List Term) × AreNamedVariables names body variables × (cells ≡ one_at_least (map (λ variable. cell_of (m variable)) variables))
