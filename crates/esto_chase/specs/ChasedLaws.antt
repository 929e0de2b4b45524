-- Laws of what a chase ends with.
use Rattle.std.specs.Prelude.{List}
use Rattle.esto_semantics.specs.Containment.{IsSatisfiable}
use Rattle.esto_semantics.specs.Queries.{ConjunctiveQuery, IsQuery}
use Rattle.esto_semantics.specs.Rules.{Rule, AreRules}
use Rattle.esto_chase_laws.specs.Runs.{start_of}
use Rattle.esto_chase_laws.specs.declared.clash.Clash.{Clash}
use Rattle.esto_chase.specs.Chased.{RunClashes}

-- A query whose run clashes is not satisfiable.
abbrev pub ClashedIsUnsatisfiable : Type 0
ClashedIsUnsatisfiable =
    (rules : List Rule) (query : ConjunctiveQuery) (clash : Clash) → AreRules rules → IsQuery query
    → RunClashes rules (start_of query) clash → ¬ (IsSatisfiable rules query)
