-- Followed in the strong form: what a chase makes of its start's facts, as every database that meets the rules receives it. Source: the chase with
-- dependencies (Fagin, Kolaitis, Miller and Popa 2005).
use Rattle.std.specs.Prelude.{◌≡◌, ◌⊎◌, List, map, Contains}
use Rattle.esto_term.specs.declared.term.Term.{Term}
use Rattle.esto_semantics.specs.Facts.{Database, image, Mentions}
use Rattle.esto_semantics.specs.Instances.{IsFollowed}
use Rattle.esto_semantics.specs.Maps.{IsFlat, Keeps, Sends}
use Rattle.esto_semantics.specs.Queries.{ConjunctiveQuery}
use Rattle.esto_semantics.specs.Rules.{Rule, Meets}
use Rattle.esto_semantics.specs.declared.fact.Fact.{Fact}
use Rattle.esto_semantics.specs.declared.fact.Value.{Value}
use Rattle.esto_semantics.specs.declared.fact.Value.TheVariants.{Text}

-- The term is a constant, a variable, or one that the start's facts mention.
abbrev pub IsGiven : List (Fact Term) → Term → Type 0
IsGiven start term = IsFlat term ⊎ Mentions start term

-- The given valuation of the start's facts is followed into the database: some valuation keeps constants, agrees with the given one on each constant and each
-- variable and on each term of the start, sends each fact that holds to a fact of the database, and gives terms that are one a single value.
pub record IsFollowedInto (start : List (Fact Term)) (Holds : Fact Term → Type 0) (One : Term → Term → Type 0) (given : Term → Value) (database : Database)
    : Type 0 where
  pub after : Term → Value
  pub keeps : Keeps Text after
  pub agrees : (term : Term) → IsGiven start term → after term ≡ given term
  pub sends : (fact : Fact Term) → Holds fact → Contains database (image after fact)
  pub one_value : (term other : Term) → One term other → after term ≡ after other

-- The start's facts are followed by the facts that hold, with the terms that are one: each valuation that sends the start into a database which meets the
-- rules is followed into it.
abbrev pub IsFollowedBy : List Rule → List (Fact Term) → (Fact Term → Type 0) → (Term → Term → Type 0) → Type 0
IsFollowedBy rules start Holds One =
    (database : Database) → Meets rules database → (m : Term → Value) → Keeps Text m → Sends m start database → IsFollowedInto start Holds One m database

-- Let a start's facts be followed by the facts of an end, with each term one with what a map makes of it. Where each head term of the start is a
-- constant, a variable, or in its facts, and the map makes the end's head of the start's head, the end as a query follows the start.
abbrev pub QueryIsFollowed : Type 0
QueryIsFollowed =
    (rules : List Rule) (start end : ConjunctiveQuery) (went : Term → Term)
    → IsFollowedBy rules start.body (Contains end.body) (λ term other. went term ≡ other)
    → ((term : Term) → Contains start.head term → IsGiven start.body term) → map went start.head ≡ end.head
    → IsFollowed rules start end
