-- Laws of well-formed databases.
use Rattle.std.specs.Prelude.{◌↔◌, ℕ, List}
use Rattle.esto_semantics.specs.Containment.{IsContained, IsSatisfiable}
use Rattle.esto_semantics.specs.Facts.{Database}
use Rattle.esto_semantics.specs.Queries.{ConjunctiveQuery}
use Rattle.esto_semantics.specs.Restriction.{over_schema, AreRulesOver, IsSideOver, IsContainedOver, IsSatisfiableOver}
use Rattle.esto_semantics.specs.Rules.{Rule, AreRules, Meets}
use Rattle.esto_semantics.specs.Sides.{Side, IsAnswerOf}
use Rattle.esto_semantics.specs.WellFormed.{AreOver, IsQueryOver}
use Rattle.esto_semantics.specs.declared.fact.Value.{Value}

-- What a database has over a schema is over the schema.
abbrev pub RestrictedIsOver : Type 0
RestrictedIsOver = (schema : List ℕ) (database : Database) → AreOver schema (over_schema schema database)

-- It meets the same rules over the schema as the database.
abbrev pub RestrictedMeets : Type 0
RestrictedMeets =
    (schema : List ℕ) (rules : List Rule) (database : Database) → AreRulesOver schema rules
    → Meets rules database ↔ Meets rules (over_schema schema database)

-- It gives each side over the schema the same answers as the database.
abbrev pub RestrictedAnswers : Type 0
RestrictedAnswers =
    (schema : List ℕ) (side : Side) (database : Database) (row : List Value) → IsSideOver schema side
    → IsAnswerOf side database row ↔ IsAnswerOf side (over_schema schema database) row

-- For rules and sides over a schema, containment over all databases is containment over the well-formed ones.
abbrev pub WellFormedContain : Type 0
WellFormedContain =
    (schema : List ℕ) (rules : List Rule) (left right : Side)
    → AreRules rules → AreRulesOver schema rules → IsSideOver schema left → IsSideOver schema right
    → IsContained rules (IsAnswerOf left) (IsAnswerOf right) ↔ IsContainedOver schema rules (IsAnswerOf left) (IsAnswerOf right)

-- For rules and a query over a schema, the query is satisfiable exactly where it is so by a well-formed database.
abbrev pub WellFormedSatisfy : Type 0
WellFormedSatisfy =
    (schema : List ℕ) (rules : List Rule) (query : ConjunctiveQuery) → AreRules rules → AreRulesOver schema rules → IsQueryOver schema query
    → IsSatisfiable rules query ↔ IsSatisfiableOver schema rules query
