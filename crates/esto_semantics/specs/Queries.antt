-- Conjunctive queries and their answers, under set meaning. Source: conjunctive queries (Chandra and Merlin 1977).
use Rattle.std.specs.Prelude.{◌≡◌, ◌≢◌, ℕ, List, [], map, Contains}
use Rattle.esto_term.specs.declared.term.Term.{Term}
use Rattle.esto_semantics.specs.Facts.{Database}
use Rattle.esto_semantics.specs.Maps.{IsFlat, AreFlat, IsFixedBy, Keeps, SendsInto}
use Rattle.esto_semantics.specs.declared.fact.Fact.{Fact}
use Rattle.esto_semantics.specs.declared.fact.Value.{Value}
use Rattle.esto_semantics.specs.declared.fact.Value.TheVariants.{Text}

-- A conjunctive query is a head of terms over a body of atoms. In a query over the datasets the relation of an atom is the number of a relation of the schema;
-- in a query over fragments, such as a plan or a candidate, it is the number of a fragment. Which of the two is meant is said by the kind of its answers.
pub record ConjunctiveQuery : Type 0 where
  pub head : List Term
  pub body : List (Fact Term)

-- A query has a head and a body, its terms are constants and variables, and each variable of its head is in its body.
pub record IsQuery (query : ConjunctiveQuery) : Type 0 where
  pub has_head : query.head ≢ []
  pub has_body : query.body ≢ []
  pub flat_head : (term : Term) → Contains query.head term → IsFlat term
  pub flat_body : AreFlat query.body
  pub safe : (term : Term) → Contains query.head term → IsFixedBy query.body term

-- The row is the head's image under some map that keeps constants and sends each atom of the body to a fact that holds.
abbrev pub IsAnswerInto : {V : Type 0} → (List ℕ → V) → ConjunctiveQuery → (Fact V → Type 0) → List V → Type 0
IsAnswerInto {V} constant query Holds row =
    (m : Term → V) × Keeps constant m × SendsInto m query.body Holds × (row ≡ map m query.head)

-- The row is an answer of the query over the database: the head's image under a valuation that sends each atom of the body to a fact of the database.
abbrev pub IsAnswer : ConjunctiveQuery → Database → List Value → Type 0
IsAnswer query database row = IsAnswerInto Text query (Contains database) row
