-- For private clauses: the columns in which facts have nodes, and views whose rows have none.
use Rattle.std.specs.Prelude.{◌≡◌, ◌⊎◌, ℕ, List, Some, Contains, slice_get}
use Rattle.esto_semantics.specs.Queries.{ConjunctiveQuery}
use Rattle.esto_semantics.specs.declared.fact.Fact.{Fact}
use Rattle.esto_term.specs.Kinds.{IsConstant}
use Rattle.esto_term.specs.declared.term.Term.{Term}
use Rattle.esto_fill.specs.Placing.{IsOpenAt}
use Rattle.esto_fill.specs.declared.nodes.Column.{Column}

-- The column of that number of the relation.
abbrev pub column_of : ℕ → ℕ → Column
column_of relation column = record { relation = relation; column = column }

-- Each column that was there is there still.
abbrev pub Grow : List Column → List Column → Type 0
Grow old new = (it : Column) → Contains old it → Contains new it

-- The column of the term has come to the others, if the term is no constant.
abbrev pub AddsColumn : ℕ → ℕ → Term → List Column → List Column → Type 0
AddsColumn relation column term old new = Grow old new × (¬ (IsConstant term) → Contains new (column_of relation column))

-- The columns in which the fact has other terms than constants have come to the others.
abbrev pub AddsColumnsOf : Fact Term → List Column → List Column → Type 0
AddsColumnsOf fact old new = Grow old new × ((column : ℕ) → IsOpenAt fact.terms column → Contains new (column_of fact.relation column))

-- Each column in which one of the facts has another term than a constant is one of these.
abbrev pub CoverNodes : List (Fact Term) → List Column → Type 0
CoverNodes facts columns =
    (fact : Fact Term) → Contains facts fact → (column : ℕ) → IsOpenAt fact.terms column → Contains columns (column_of fact.relation column)

-- The term is this one, and the column is none of these.
abbrev pub IsFreeAt : List Column → ℕ → ℕ → Term → Term → Type 0
IsFreeAt columns relation column own term = (own ≡ term) × ¬ (Contains columns (column_of relation column))

-- The term stands in the atom in another column than these.
abbrev pub IsFreeIn : List Column → Term → Fact Term → Type 0
IsFreeIn columns term atom = (column : ℕ) × (own : Term) × (slice_get atom.terms column ≡ Some own) × IsFreeAt columns atom.relation column own term

-- The term is a constant, or stands in one of the atoms in another column than these.
abbrev pub IsFree : List Column → List (Fact Term) → Term → Type 0
IsFree columns body term = IsConstant term ⊎ ((atom : Fact Term) × Contains body atom × IsFreeIn columns term atom)

-- Each term of the head is so.
abbrev pub IsFreeView : List Column → ConjunctiveQuery → Type 0
IsFreeView columns view = (term : Term) → Contains view.head term → IsFree columns view.body term

-- Each of the views is so.
abbrev pub AreFree : List Column → List ConjunctiveQuery → Type 0
AreFree columns views = (view : ConjunctiveQuery) → Contains views view → IsFreeView columns view
