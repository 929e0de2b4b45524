-- Laws of the minimal equivalent parts of a chased query.
use Rattle.std.specs.Prelude.{◌≡◌, ◌↔◌, Bool, List, Contains}
use Rattle.esto_contain.specs.Minimised.{instance_of, IsMinimised}
use Rattle.esto_contain.specs.declared.minimising.Minimal.{Minimal}
use Rattle.esto_query.specs.declared.query.Name.{Name}
use Rattle.esto_semantics.specs.Listed.{IsEquivalentPart}
use Rattle.esto_semantics.specs.Queries.{ConjunctiveQuery}
use Rattle.esto_semantics.specs.Rules.{Rule, AreRules}
use Rattle.esto_views.specs.Renamed.{IsRenamed}

-- The facts, the head and the names are one, and the sets are the same.
abbrev pub MinimisedIsOne : Type 0
MinimisedIsOne =
    (rules : List Rule) (names : List Name) (query : ConjunctiveQuery) (minimal other : Minimal) → AreRules rules
    → IsMinimised rules names query minimal → IsMinimised rules names query other
    → (instance_of minimal ≡ instance_of other) × (minimal.names ≡ other.names)
    × ((set : List Bool) → Contains minimal.sets.sets set ↔ Contains other.sets.sets set)

-- A set of an instance's facts is equivalent to the query exactly where it is one under new names.
abbrev pub RenamedPartsAreAlike : Type 0
RenamedPartsAreAlike =
    (rules : List Rule) (names : List Name) (query end renamed : ConjunctiveQuery) (new_names : List Name) → IsRenamed names end renamed new_names
    → (set : List Bool) → IsEquivalentPart rules query end set ↔ IsEquivalentPart rules query renamed set
