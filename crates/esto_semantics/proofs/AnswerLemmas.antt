-- Answers under maps: of what holds, and of the query.
use Rattle.std.proofs.Common.{◌≡◌, ℕ, List, map, Contains, sym, ap, ◌∙◌}
use Rattle.esto_term.specs.declared.term.Term.{Term}
use Rattle.esto_term.specs.declared.term.Term.TheVariants.{Const}
use Rattle.esto_semantics.specs.Containment.{IsContained}
use Rattle.esto_semantics.specs.Facts.{Database, image}
use Rattle.esto_semantics.specs.Instances.{MapsTo}
use Rattle.esto_semantics.specs.Maps.{Keeps, Sends}
use Rattle.esto_semantics.specs.PlanOf.{IsTermRow}
use Rattle.esto_semantics.specs.Queries.{ConjunctiveQuery, IsAnswerInto}
use Rattle.esto_semantics.specs.Rules.{Rule}
use Rattle.esto_semantics.specs.Views.{IsViewRow, IsFragmentAnswer}
use Rattle.esto_semantics.specs.declared.fact.Fact.{Fact}
use Rattle.esto_semantics.specs.declared.fact.Value.{Value}
use Rattle.esto_semantics.specs.declared.fact.Value.TheVariants.{Text}
use Rattle.esto_semantics.proofs.FactLemmas.{SendsInto-then}
use Rattle.esto_term.proofs.ListLemmas.{map_then}

-- a map that takes what holds to what holds takes answers to answers
pub IsAnswerInto-then : {V W : Type 0} (constant : List ℕ → V) (other_constant : List ℕ → W) (query : ConjunctiveQuery) (Holds : Fact V → Type 0)
    (Others : Fact W → Type 0) (next : V → W) (row : List V)
    → ((text : List ℕ) → next (constant text) ≡ other_constant text) → ((fact : Fact V) → Holds fact → Others (image next fact))
    → IsAnswerInto constant query Holds row → IsAnswerInto other_constant query Others (map next row)
IsAnswerInto-then constant other_constant query Holds Others next row kept carried (m, keeps, sends, is) = (
  (λ term. next (m term)),
  (λ text. ap next (keeps text) ∙ kept text),
  SendsInto-then m next query.body Holds Others carried sends,
  ap (map next) is ∙ map_then m next query.head,
)

-- the answers of a query are answers of each query that maps to it
pub IsAnswerInto-mapped : {V : Type 0} (constant : List ℕ → V) (other query : ConjunctiveQuery) (Holds : Fact V → Type 0) (row : List V)
    → MapsTo other query → IsAnswerInto constant query Holds row → IsAnswerInto constant other Holds row
IsAnswerInto-mapped constant other query Holds row (m, keeps, sends, heads) (valuation, valued, into, is) = (
  (λ term. valuation (m term)),
  (λ text. ap valuation (keeps text) ∙ valued text),
  SendsInto-then m valuation other.body (Contains query.body) Holds into sends,
  is ∙ ap (map valuation) (sym heads) ∙ map_then m valuation other.head,
)

pub contained-in_mapped : (rules : List Rule) (views : List ConjunctiveQuery) (other query : ConjunctiveQuery) → MapsTo other query
    → IsContained rules (IsFragmentAnswer views query) (IsFragmentAnswer views other)
contained-in_mapped rules views other query maps database meets row = IsAnswerInto-mapped Text other query (IsViewRow views database) row maps

-- a valuation that sends the facts into a database makes rows of the views there of the rows over the facts
pub IsViewRow-sent : (views : List ConjunctiveQuery) (facts : List (Fact Term)) (database : Database) (m : Term → Value) → Keeps Text m → Sends m facts database
    → (row : Fact Term) → IsTermRow views facts row → IsViewRow views database (image m row)
IsViewRow-sent views facts database m keeps sends row (view, found, answer) =
    (view, found, IsAnswerInto-then Const Text view (Contains facts) (Contains database) m row.terms keeps sends answer)
