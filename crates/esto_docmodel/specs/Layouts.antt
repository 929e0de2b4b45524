-- When a pattern is a layout: each row of so many columns can be written as one document, from which the pattern reads that row alone.
use Rattle.std.specs.Prelude.{◌≡◌, ◌≢◌, ◌⊎◌, ℕ, ◌+◌, ◌<◌, ◌≤◌, max, List, [], ◌∷◌, length, Contains}
use Rattle.esto_term.specs.declared.term.Term.{Term}
use Rattle.esto_term.specs.declared.term.Term.TheVariants.{Plain}
use Rattle.esto_docmodel.specs.Patterns.{Entries, done, holds, group, Mentions}
use Rattle.esto_docmodel.specs.declared.layout.TheConstants.{MAX_LAYOUT_DEPTH}
use Rattle.esto_docmodel.specs.declared.pattern.Step.{Step}
use Rattle.esto_docmodel.specs.declared.pattern.Step.TheVariants.{Name, Item, Below}

-- The paths of the entries, in order.
abbrev pub paths : Entries → List (List Step)
paths done = []
paths (holds path term rest) = path ∷ paths rest
paths (group path inner rest) = path ∷ paths rest

-- The path of the first entry.
abbrev pub first_path : Entries → List Step
first_path done = []
first_path (holds path term rest) = path
first_path (group path inner rest) = path

-- The path begins with that step.
abbrev pub Begins : Step → List Step → Type 0
Begins step [] = ⊥
Begins step (first ∷ path) = first ≡ step

-- One of the paths begins with that step.
abbrev pub SomeBegins : Step → List (List Step) → Type 0
SomeBegins step [] = ⊥
SomeBegins step (path ∷ rest) = Begins step path ⊎ SomeBegins step rest

-- Each path begins with a field, and no two with fields of one name.
abbrev pub AreFields : List (List Step) → Type 0
AreFields [] = Unit {0}
AreFields (path ∷ rest) = ((name : List ℕ) × Begins (Name name) path × ¬ (SomeBegins (Name name) rest)) × AreFields rest

-- There is one path, and it begins with an item.
abbrev pub IsOneItem : List (List Step) → Type 0
IsOneItem [] = ⊥
IsOneItem (path ∷ []) = Begins Item path
IsOneItem (path ∷ other ∷ rest) = ⊥

-- One array of one item, or one object with at least one field, has room for what stands at the ends of the paths.
abbrev pub FitTogether : List (List Step) → Type 0
FitTogether paths = IsOneItem paths ⊎ ((paths ≢ []) × AreFields paths)

-- The term is the variable of a column.
abbrev pub IsColumn : ℕ → Term → Type 0
IsColumn columns term = (column : ℕ) × (term ≡ Plain column) × (column < columns)

-- No path has `**`, after each `:` stands a column, and the entries of each group inside fit together.
abbrev pub AreLaidOut : ℕ → Entries → Type 0
AreLaidOut columns done = Unit {0}
AreLaidOut columns (holds path term rest) = ¬ (Contains path Below) × IsColumn columns term × AreLaidOut columns rest
AreLaidOut columns (group path inner rest) = ¬ (Contains path Below) × FitTogether (paths inner) × AreLaidOut columns inner × AreLaidOut columns rest

-- The term stands after `:` in exactly one place of the entries.
abbrev pub StandsOnce : Term → Entries → Type 0
StandsOnce term done = ⊥
StandsOnce term (holds path first rest) = ((first ≡ term) × ¬ (Mentions rest term)) ⊎ ((first ≢ term) × StandsOnce term rest)
StandsOnce term (group path inner rest) = (StandsOnce term inner × ¬ (Mentions rest term)) ⊎ (¬ (Mentions inner term) × StandsOnce term rest)

-- The greatest number of path steps from the root to the end of an entry.
abbrev pub height : Entries → ℕ
height done = 0
height (holds path term rest) = max (length path) (height rest)
height (group path inner rest) = max (length path + height inner) (height rest)

-- The entries are a layout for so many columns: no path has `**`; after each `:` stands a column, and each column stands there once; in each group either
-- there is one entry, whose path begins with an item, or there is at least one and all paths begin with fields of distinct names; and each column stands at
-- most 126 path steps below the root.
pub record IsLayout (columns : ℕ) (entries : Entries) : Type 0 where
  pub together : FitTogether (paths entries)
  pub laid_out : AreLaidOut columns entries
  pub once : (column : ℕ) → column < columns → StandsOnce (Plain column) entries
  pub shallow : height entries ≤ MAX_LAYOUT_DEPTH
