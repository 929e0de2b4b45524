-- Laws of expansions.
use Rattle.std.specs.Prelude.{◌≡◌, ◌↔◌, Bool, List, [], length}
use Rattle.esto_term.specs.declared.term.Term.{Term}
use Rattle.esto_semantics.specs.Containment.{IsContained}
use Rattle.esto_semantics.specs.Expansions.{expanded, IsExpansion, IsPartOf, FitsViews}
use Rattle.esto_semantics.specs.Facts.{Database}
use Rattle.esto_semantics.specs.Instances.{MapsTo, IsUniversalFor, IsFinished}
use Rattle.esto_semantics.specs.Listed.{candidate}
use Rattle.esto_semantics.specs.Queries.{ConjunctiveQuery, IsAnswer}
use Rattle.esto_semantics.specs.Rules.{Rule, AreRules}
use Rattle.esto_semantics.specs.Unions.{IsUnionAnswer, OneMapsTo}
use Rattle.esto_semantics.specs.Views.{IsFragmentAnswer}
use Rattle.esto_semantics.specs.declared.fact.Fact.{Fact}
use Rattle.esto_semantics.specs.declared.fact.Value.{Value}

-- A query over fragments has exactly the answers that its head has over its expansion.
abbrev pub ExpansionAnswers : Type 0
ExpansionAnswers =
    (views : List ConjunctiveQuery) (query : ConjunctiveQuery) (expansion : List (Fact Term)) → IsExpansion views query expansion
    → (database : Database) (row : List Value) → IsFragmentAnswer views query database row ↔ IsAnswer (expanded query expansion) database row

-- It is contained in a query over the datasets exactly where that query maps, head to head, to a finished instance that is universal for the expansion.
abbrev pub ExpansionIsContained : Type 0
ExpansionIsContained =
    (rules : List Rule) (views : List ConjunctiveQuery) (query : ConjunctiveQuery) (expansion : List (Fact Term)) (end right : ConjunctiveQuery)
    → AreRules rules → IsExpansion views query expansion → IsUniversalFor rules (expanded query expansion) end → IsFinished rules end
    → IsContained rules (IsFragmentAnswer views query) (IsAnswer right) ↔ MapsTo right end

-- It is contained in a union of such queries exactly where one of them does.
abbrev pub ExpansionIsContainedInUnion : Type 0
ExpansionIsContainedInUnion =
    (rules : List Rule) (views : List ConjunctiveQuery) (query : ConjunctiveQuery) (expansion : List (Fact Term)) (end : ConjunctiveQuery)
    (queries : List ConjunctiveQuery)
    → AreRules rules → IsExpansion views query expansion → IsUniversalFor rules (expanded query expansion) end → IsFinished rules end
    → IsContained rules (IsFragmentAnswer views query) (IsUnionAnswer queries) ↔ OneMapsTo queries end

-- Without rules the expansion is such an instance itself.
abbrev pub ExpansionWithoutRules : Type 0
ExpansionWithoutRules =
    (views : List ConjunctiveQuery) (query : ConjunctiveQuery) (expansion : List (Fact Term)) (right : ConjunctiveQuery)
    → IsExpansion views query expansion → IsContained [] (IsFragmentAnswer views query) (IsAnswer right) ↔ MapsTo right (expanded query expansion)

-- A query over fragments that fits the views has an expansion.
abbrev pub ExpansionExists : Type 0
ExpansionExists =
    (views : List ConjunctiveQuery) (query : ConjunctiveQuery) → FitsViews views query
    → (expansion : List (Fact Term)) × IsExpansion views query expansion

-- What an expansion of a plan has for a set of its atoms is an expansion of the set's candidate.
abbrev pub PartExpandsCandidate : Type 0
PartExpandsCandidate =
    (views : List ConjunctiveQuery) (plan : ConjunctiveQuery) (expansion : List (Fact Term)) (is_expansion : IsExpansion views plan expansion)
    (set : List Bool) → length set ≡ length plan.body
    → (facts : List (Fact Term)) → IsPartOf is_expansion set facts → IsExpansion views (candidate plan set) facts
