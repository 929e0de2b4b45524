-- The rows of fragments, as lists of texts and as lists of codes.
use Rattle.std.specs.Prelude.{◌≡◌, ◌⊎◌, ◌↔◌, map, ℕ, List, Some, slice_get, Contains}
use Rattle.esto_term.specs.declared.term.Term.{Term}
use Rattle.esto_term.specs.declared.term.Term.TheVariants.{Const}
use Rattle.esto_semantics.specs.Facts.{Database, Mentions}
use Rattle.esto_semantics.specs.Views.{IsViewRow}
use Rattle.esto_semantics.specs.declared.fact.Value.{Value}
use Rattle.esto_semantics.specs.declared.fact.Value.TheVariants.{Text}
use Rattle.esto_steps.specs.declared.steps.Get.{Get}
use Rattle.esto_steps.specs.declared.steps.Steps.{Steps}
use Rattle.esto_semantics.specs.Maps.{IsFixedBy}
use Rattle.esto_semantics.specs.Queries.{ConjunctiveQuery}
use Rattle.esto_columns.specs.Interned.{AreCodedRows}
use Rattle.esto_semantics.specs.declared.fact.Fact.{Fact}

-- The coded rows of each fragment are the codes of its rows, in order.
abbrev pub AreCoded : List (List ℕ) → (ℕ → List (List ℕ)) → (ℕ → List (List (List ℕ))) → Type 0
AreCoded texts coded rows = (fragment : ℕ) → AreCodedRows texts (coded fragment) (rows fragment)

-- The term stands in the query.
abbrev pub StandsIn : ConjunctiveQuery → Term → Type 0
StandsIn query term = Contains query.head term ⊎ Mentions query.body term

-- The function gives each text of the list its place there, so that the texts are distinct.
abbrev pub IsNumbering : List (List ℕ) → (List ℕ → ℕ) → Type 0
IsNumbering texts code = (number : ℕ) (text : List ℕ) → slice_get texts number ≡ Some text → code text ≡ number

-- Each constant of the query is among the texts.
abbrev pub AreInterned : List (List ℕ) → ConjunctiveQuery → Type 0
AreInterned texts query = (text : List ℕ) → StandsIn query (Const text) → Contains texts text

-- Each variable of the query's head occurs in its body.
abbrev pub IsSafeQuery : ConjunctiveQuery → Type 0
IsSafeQuery query = (term : Term) → Contains query.head term → IsFixedBy query.body term

-- The fragments that the query uses hold exactly the rows of their views over the database, which are of texts alone.
abbrev pub AreViewRows : List ConjunctiveQuery → Database → ConjunctiveQuery → (ℕ → List (List (List ℕ))) → Type 0
AreViewRows views database query rows =
    (fact : Fact Value) (atom : Fact Term) → Contains query.body atom → atom.relation ≡ fact.relation
    → IsViewRow views database fact ↔ ((row : List (List ℕ)) × Contains (rows fact.relation) row × (fact.terms ≡ map Text row))

-- The fragments that the steps name hold the same rows.
abbrev pub HoldSame : Steps → (ℕ → List (List ℕ)) → (ℕ → List (List ℕ)) → Type 0
HoldSame steps rows others = (get : Get) → Contains steps.gets get → (row : List ℕ) → Contains (rows get.fragment) row ↔ Contains (others get.fragment) row
