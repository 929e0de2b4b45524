-- The minimal equivalent parts of a chased query. Source: minimal reformulations of the chase and backchase (Deutsch, Popa and Tannen 1999).
use Rattle.std.specs.Prelude.{◌≡◌, ◌↔◌, Bool, List, length, Contains}
use Rattle.esto_chase_laws.specs.Runs.{start_of}
use Rattle.esto_contain.specs.Ends.{FinishesAt}
use Rattle.esto_contain.specs.declared.minimising.Minimal.{Minimal}
use Rattle.esto_query.specs.declared.query.Name.{Name}
use Rattle.esto_semantics.specs.Expansions.{IsOfQuery}
use Rattle.esto_semantics.specs.Listed.{IsEquivalentPart}
use Rattle.esto_semantics.specs.Queries.{ConjunctiveQuery}
use Rattle.esto_semantics.specs.Rules.{Rule}
use Rattle.esto_term.specs.Sets.{IsMinimal}
use Rattle.esto_term.specs.declared.term.Term.{Term}
use Rattle.esto_views.specs.Renamed.{IsRenamed}
use Rattle.esto_views.specs.Soundness.{IsNamed}

-- The facts with the head, as a query over the datasets.
abbrev pub instance_of : Minimal → ConjunctiveQuery
instance_of minimal = record { head = minimal.head; body = minimal.facts }

-- The facts and the head are those of the end of the query's run, which has finished, under new names; and the sets are exactly the minimal ones of these facts
-- that are safe and, with the head, equivalent to the query.
pub record IsMinimised (rules : List Rule) (names : List Name) (query : ConjunctiveQuery) (minimal : Minimal) : Type 0 where
  pub end : ConjunctiveQuery
  pub finishes : FinishesAt rules (start_of query) end
  pub renamed : IsRenamed names end (instance_of minimal) minimal.names
  pub count : minimal.sets.count ≡ length minimal.facts
  pub exact : (set : List Bool) → Contains minimal.sets.sets set ↔ IsMinimal (IsEquivalentPart rules query (instance_of minimal)) set

-- Each term of the facts and of the head is a constant, or a variable that has a name.
abbrev pub HasNames : Minimal → Type 0
HasNames minimal = (term : Term) → IsOfQuery (instance_of minimal) term → IsNamed minimal.names term
