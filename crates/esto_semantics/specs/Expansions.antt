-- Expansions: what a query over fragments asks of the datasets. Source: answering queries using views (Levy, Mendelzon, Sagiv and Srivastava 1995).
use Rattle.std.specs.Prelude.{◌≡◌, ◌≢◌, ◌⊎◌, ◌↔◌, ℕ, ◌<◌, Bool, List, Some, length, map, slice_get, Contains, AllPairs}
use Rattle.esto_term.specs.declared.term.Term.{Term}
use Rattle.esto_term.specs.declared.term.Term.TheVariants.{Const}
use Rattle.esto_semantics.specs.Facts.{image, Mentions}
use Rattle.esto_semantics.specs.Maps.{IsConstant, IsVariable, Keeps}
use Rattle.esto_semantics.specs.Queries.{ConjunctiveQuery}
use Rattle.esto_term.specs.Sets.{Has}
use Rattle.esto_semantics.specs.declared.fact.Fact.{Fact}

-- The term is an inner one of the view: it stands in the view's body, is no constant and does not stand in the view's head.
pub record IsInner (view : ConjunctiveQuery) (term : Term) : Type 0 where
  pub in_body : Mentions view.body term
  pub no_constant : IsConstant term → ⊥
  pub not_in_head : Contains view.head term → ⊥

-- The term stands in the query's body or in its head.
abbrev pub IsOfQuery : ConjunctiveQuery → Term → Type 0
IsOfQuery query term = Mentions query.body term ⊎ Contains query.head term

-- The facts, read as a set, are an expansion of the query over fragments: for each atom, by its number, they are the body of its fragment's view under a map
-- that keeps constants, sends the view's head to the atom's terms, and sends each inner term of the view to a variable that does not stand in the query and
-- that no other inner term, of this atom or of another, is sent to. So each atom's fragment has a view, with a head as long as the atom's row.
pub record IsExpansion (views : List ConjunctiveQuery) (query : ConjunctiveQuery) (expansion : List (Fact Term)) : Type 0 where
  pub view : ℕ → ConjunctiveQuery
  pub spread : ℕ → Term → Term
  pub has_view : (number : ℕ) (atom : Fact Term) → slice_get query.body number ≡ Some atom → slice_get views atom.relation ≡ Some (view number)
  pub keeps : (number : ℕ) → Keeps Const (spread number)
  pub head : (number : ℕ) (atom : Fact Term) → slice_get query.body number ≡ Some atom → map (spread number) (view number).head ≡ atom.terms
  pub variable : (number : ℕ) (term : Term) → number < length query.body → IsInner (view number) term → IsVariable (spread number term)
  pub outside : (number : ℕ) (term : Term) → number < length query.body → IsInner (view number) term → IsOfQuery query (spread number term) → ⊥
  pub apart : (number other : ℕ) (term other_term : Term) → number < length query.body → other < length query.body
      → IsInner (view number) term → IsInner (view other) other_term → spread number term ≡ spread other other_term
      → (number ≡ other) × (term ≡ other_term)
  pub facts : (fact : Fact Term) → Contains expansion fact
      ↔ ((number : ℕ) × (number < length query.body)
      × ((part : Fact Term) × Contains (view number).body part × (image (spread number) part ≡ fact)))

-- What a query over fragments asks of the datasets: its head over its expansion.
abbrev pub expanded : ConjunctiveQuery → List (Fact Term) → ConjunctiveQuery
expanded query expansion = record { head = query.head; body = expansion }

-- The facts, read as a set, are those that the expansion has for the numbers of the set.
abbrev pub IsPartOf : {views : List ConjunctiveQuery} → {query : ConjunctiveQuery} → {expansion : List (Fact Term)}
    → IsExpansion views query expansion → List Bool → List (Fact Term) → Type 0
IsPartOf of set facts =
    (fact : Fact Term) → Contains facts fact
    ↔ ((number : ℕ) × Has set number × ((part : Fact Term) × Contains (of.view number).body part × (image (of.spread number) part ≡ fact)))

-- The view is one for the atom: its head is of distinct variables, as many as the atom has terms.
pub record IsViewFor (view : ConjunctiveQuery) (atom : Fact Term) : Type 0 where
  pub same_length : length view.head ≡ length atom.terms
  pub variables : (term : Term) → Contains view.head term → IsVariable term
  pub distinct : AllPairs ◌≢◌ view.head

-- The query over fragments fits the views: each of its atoms has a view of its fragment that is one for it.
abbrev pub FitsViews : List ConjunctiveQuery → ConjunctiveQuery → Type 0
FitsViews views query =
    (atom : Fact Term) → Contains query.body atom
    → (view : ConjunctiveQuery) × (slice_get views atom.relation ≡ Some view) × IsViewFor view atom
