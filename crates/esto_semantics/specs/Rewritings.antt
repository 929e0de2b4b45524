-- Plans for a query, and queries over fragments that map onto sets of a plan's atoms. Source: chase and backchase (Deutsch, Popa and Tannen 1999).
use Rattle.std.specs.Prelude.{◌≡◌, ◌≢◌, ◌↔◌, Bool, List, [], length, map, Contains}
use Rattle.esto_term.specs.declared.term.Term.{Term}
use Rattle.esto_term.specs.declared.term.Term.TheVariants.{Const}
use Rattle.esto_semantics.specs.Access.{Patterns, IsExecutable}
use Rattle.esto_semantics.specs.Containment.{IsContained}
use Rattle.esto_semantics.specs.Facts.{image}
use Rattle.esto_semantics.specs.Listed.{chosen, candidate, HasCandidate, IsSafe}
use Rattle.esto_semantics.specs.Maps.{AreFlat, Keeps}
use Rattle.esto_semantics.specs.Queries.{ConjunctiveQuery}
use Rattle.esto_semantics.specs.Rules.{Rule}
use Rattle.esto_semantics.specs.Views.{IsFragmentAnswer}
use Rattle.esto_semantics.specs.declared.fact.Fact.{Fact}

-- The plan has the form of one for the query: it has a head, of as many terms as the query's, and its atoms are over constants and variables.
pub record IsPlanFor (query plan : ConjunctiveQuery) : Type 0 where
  pub same_length : length plan.head ≡ length query.head
  pub has_head : plan.head ≢ []
  pub flat_body : AreFlat plan.body

-- The query over fragments maps onto the set of the plan's atoms: some map of terms that keeps constants sends its head, term by term, to the plan's head, and
-- the images of its atoms are exactly the atoms of the set.
pub record MapsOnto (other plan : ConjunctiveQuery) (set : List Bool) : Type 0 where
  pub m : Term → Term
  pub keeps : Keeps Const m
  pub head : map m other.head ≡ plan.head
  pub onto : (atom : Fact Term) → Contains (chosen set plan.body) atom ↔ Contains (map (image m) other.body) atom

-- The query over fragments maps onto the set of the plan's atoms, which is safe and executable, and whose candidate is contained in the query. So the
-- candidate is contained in whatever the query is contained in.
pub record MapsOntoExecutable (rules : List Rule) (views : List ConjunctiveQuery) (patterns : Patterns) (other plan : ConjunctiveQuery) (set : List Bool)
    : Type 0 where
  pub onto : MapsOnto other plan set
  pub has_candidate : HasCandidate plan set
  pub safe : IsSafe plan set
  pub executable : IsExecutable patterns plan.body set
  pub contained : IsContained rules (IsFragmentAnswer views (candidate plan set)) (IsFragmentAnswer views other)
