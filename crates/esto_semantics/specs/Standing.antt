-- Databases that stand for facts over terms: what the facts say of the terms, the database says of their values. Source: canonical databases (Chandra and
-- Merlin 1977).
use Rattle.std.specs.Prelude.{◌≡◌, ◌⊎◌, ◌↔◌, ℕ, List, map, Contains}
use Rattle.esto_term.specs.Kinds.{IsConstant}
use Rattle.esto_term.specs.declared.term.Term.{Term}
use Rattle.esto_term.specs.declared.term.Term.TheVariants.{Const}
use Rattle.esto_semantics.specs.Facts.{Database, image, Mentions}
use Rattle.esto_semantics.specs.Instances.{IsFinished}
use Rattle.esto_semantics.specs.Maps.{Keeps}
use Rattle.esto_semantics.specs.PlanOf.{IsTermRow}
use Rattle.esto_semantics.specs.Queries.{ConjunctiveQuery, IsQuery, IsAnswer, IsAnswerInto}
use Rattle.esto_semantics.specs.Rules.{Rule, IsRule, AreRules, Meets, MeetsInto, MeetsRule}
use Rattle.esto_semantics.specs.Views.{IsViewRow, IsFragmentAnswer}
use Rattle.esto_semantics.specs.declared.fact.Fact.{Fact}
use Rattle.esto_semantics.specs.declared.fact.Value.{Value}
use Rattle.esto_semantics.specs.declared.fact.Value.TheVariants.{Text, Node}

-- The map gives each constant its text, each other one of these terms an unnamed value, and different ones of them different values.
pub record AreValuesOf (Of : Term → Type 0) (value : Term → Value) : Type 0 where
  pub keeps : Keeps Text value
  pub unnamed : (term : Term) → Of term → IsConstant term ⊎ ((node : ℕ) × (value term ≡ Node node))
  pub apart : (term other : Term) → Of term → Of other → value term ≡ value other → term ≡ other

-- The database stands for the facts under values for their terms: its facts are exactly the images of these.
pub record Stands (facts : List (Fact Term)) (value : Term → Value) (database : Database) : Type 0 where
  pub values : AreValuesOf (Mentions facts) value
  pub images : (fact : Fact Value) → Contains database fact ↔ Contains (map (image value) facts) fact

-- The rows of values are exactly the images of the rows of terms, each of one alone.
pub record RowsStand (value : Term → Value) (Rows : List Term → Type 0) (Others : List Value → Type 0) : Type 0 where
  pub there : (row : List Term) → Rows row → Others (map value row)
  pub back : (other : List Value) → Others other → (row : List Term) × Rows row × (map value row ≡ other)
  pub apart : (row other : List Term) → Rows row → Rows other → map value row ≡ map value other → row ≡ other

-- Some database stands for the facts.
abbrev pub StandingExists : Type 0
StandingExists = (facts : List (Fact Term)) → (value : Term → Value) × (database : Database) × Stands facts value database

-- Each database stands for some facts.
abbrev pub StandingFactsExist : Type 0
StandingFactsExist = (database : Database) → (facts : List (Fact Term)) × (value : Term → Value) × Stands facts value database

-- The facts, read over terms, meet a rule exactly where a database that stands for them meets it.
abbrev pub RulesStand : Type 0
RulesStand =
    (facts : List (Fact Term)) (value : Term → Value) (database : Database) (rule : Rule) → Stands facts value database → IsRule rule
    → MeetsInto Const ◌≡◌ (Contains facts) rule ↔ MeetsRule rule database

-- So an instance is finished exactly where the database meets the rules.
abbrev pub FinishedStands : Type 0
FinishedStands =
    (end : ConjunctiveQuery) (value : Term → Value) (database : Database) (rules : List Rule) → Stands end.body value database → AreRules rules
    → IsFinished rules end ↔ Meets rules database

-- The answers of a query over a database that stands for facts are the rows that it has over the facts, read over terms.
abbrev pub AnswersStand : Type 0
AnswersStand =
    (facts : List (Fact Term)) (value : Term → Value) (database : Database) (query : ConjunctiveQuery) → Stands facts value database → IsQuery query
    → RowsStand value (IsAnswerInto Const query (Contains facts)) (IsAnswer query database)

-- Each of the views is a query.
abbrev pub AreQueries : List ConjunctiveQuery → Type 0
AreQueries queries = (query : ConjunctiveQuery) → Contains queries query → IsQuery query

-- The rows of the fragments of views over a database that stands for facts are the rows of the views over the facts, read over terms.
abbrev pub ViewRowsStand : Type 0
ViewRowsStand =
    (facts : List (Fact Term)) (value : Term → Value) (database : Database) (views : List ConjunctiveQuery) (fragment : ℕ)
    → Stands facts value database → AreQueries views
    → RowsStand value (λ row. IsTermRow views facts (record { relation = fragment; terms = row }))
    (λ row. IsViewRow views database (record { relation = fragment; terms = row }))

-- The answers of a query over fragments at a database that stands for facts are the rows that it has over the rows of the views over the facts.
abbrev pub FragmentAnswersStand : Type 0
FragmentAnswersStand =
    (facts : List (Fact Term)) (value : Term → Value) (database : Database) (views : List ConjunctiveQuery) (query : ConjunctiveQuery)
    → Stands facts value database → AreQueries views → IsQuery query
    → RowsStand value (IsAnswerInto Const query (IsTermRow views facts)) (IsFragmentAnswer views query database)
