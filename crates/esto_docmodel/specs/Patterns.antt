-- Patterns of trees, and their own meaning, in which no node has a number. Source: tree patterns with child and descendant edges.
use Rattle.std.specs.Prelude.{◌≡◌, ◌⊎◌, ℕ, ◌<◌, List, [], ◌∷◌, Some}
use Rattle.esto_term.specs.declared.term.Term.{Term}
use Rattle.esto_term.specs.declared.term.Term.TheVariants.{Const, Plain}
use Rattle.esto_docmodel.specs.Forests.{name, place, Node, HasKid, HasInside}
use Rattle.esto_docmodel.specs.declared.pattern.Step.{Step}
use Rattle.esto_docmodel.specs.declared.pattern.Step.TheVariants.{Name, Item, Below}

-- Entries in order: none; or a first one, a path with a term or with a group of entries, and the entries after it.
pub data Entries : Type 0 where
  done : Entries
  holds : List Step → Term → Entries → Entries
  group : List Step → Entries → Entries → Entries

-- A step leads to the field of its name, to an item, or to a node strictly inside.
abbrev pub Takes : Step → Node → Node → Type 0
Takes (Name k) start found = HasKid start.inside (name k) found
Takes Item start found = HasKid start.inside place found
Takes Below start found = HasInside start.inside found

-- A path leads from a node to another, step by step.
abbrev pub Leads : List Step → Node → Node → Type 0
Leads [] start found = start ≡ found
Leads (step ∷ path) start found = (next : Node) × Takes step start next × Leads path next found

-- The node holds a text, and the term is that constant.
abbrev pub HoldsTerm : Node → Term → Type 0
HoldsTerm found term = (text : List ℕ) × (found.content ≡ Some text) × (term ≡ Const text)

-- The entries are matched in a node under a map when each is: at the end of its path some node holds what the map makes of its term, or in some node there its
-- group is matched.
abbrev pub Matches : (Term → Term) → Entries → Node → Type 0
Matches m done start = Unit {0}
Matches m (holds path term rest) start = ((found : Node) × Leads path start found × HoldsTerm found (m term)) × Matches m rest start
Matches m (group path inner rest) start = ((found : Node) × Leads path start found × Matches m inner found) × Matches m rest start

-- The term stands after `:` in one of the entries.
abbrev pub Mentions : Entries → Term → Type 0
Mentions done term = ⊥
Mentions (holds path first rest) term = (first ≡ term) ⊎ Mentions rest term
Mentions (group path inner rest) term = Mentions inner term ⊎ Mentions rest term

-- Where the term is a variable, its number is below the bound.
abbrev pub IsBelow : ℕ → Term → Type 0
IsBelow bound term = (variable : ℕ) → term ≡ Plain variable → variable < bound

-- Each variable of the entries is below the bound.
abbrev pub AreBelow : ℕ → Entries → Type 0
AreBelow bound entries = (term : Term) → Mentions entries term → IsBelow bound term
