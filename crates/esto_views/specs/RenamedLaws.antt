-- Laws of queries and plans under new names.
use Rattle.std.specs.Prelude.{◌≡◌, List}
use Rattle.esto_term.specs.declared.term.Term.{Term}
use Rattle.esto_term.specs.declared.term.Term.TheVariants.{Const}
use Rattle.esto_semantics.specs.Expansions.{IsOfQuery}
use Rattle.esto_semantics.specs.Maps.{Keeps}
use Rattle.esto_semantics.specs.Queries.{ConjunctiveQuery}
use Rattle.esto_semantics.specs.declared.fact.Fact.{Fact}
use Rattle.esto_semantics.specs.Cores.{with_head, IsRenamedTo}
use Rattle.esto_query.specs.declared.query.Name.{Name}
use Rattle.esto_views.specs.Plans.{plan_query}
use Rattle.esto_views.specs.declared.plan.Plan.{Plan}
use Rattle.esto_views.specs.Renamed.{IsRenamed, IsRenamedPlan}

-- There is one query that is another under new names.
abbrev pub RenamedIsOne : Type 0
RenamedIsOne =
    (names : List Name) (old new other : ConjunctiveQuery) (new_names other_names : List Name)
    → IsRenamed names old new new_names → IsRenamed names old other other_names → (new ≡ other) × (new_names ≡ other_names)

-- The renaming can be undone: another map that keeps constants takes what becomes of a term of the query back to the term.
abbrev pub RenamingIsUndone : Type 0
RenamingIsUndone =
    (names : List Name) (old new : ConjunctiveQuery) (new_names : List Name) (renamed : IsRenamed names old new new_names)
    → (back : Term → Term) × Keeps Const back × ((term : Term) → IsOfQuery old term → back (renamed.renaming term) ≡ term)

-- So there is one plan of some rows and a head under new names.
abbrev pub RenamedPlanIsOne : Type 0
RenamedPlanIsOne =
    (names : List Name) (rows : List (Fact Term)) (head : List Term) (plan other : Plan)
    → IsRenamedPlan names rows head plan → IsRenamedPlan names rows head other
    → (plan_query plan ≡ plan_query other) × (plan.names ≡ other.names)

-- The plan of some rows and a head under new names is their query under a renaming of its terms that can be undone.
abbrev pub RenamedPlanIsRenamed : Type 0
RenamedPlanIsRenamed =
    (names : List Name) (rows : List (Fact Term)) (head : List Term) (plan : Plan)
    → IsRenamedPlan names rows head plan → IsRenamedTo (with_head head rows) (plan_query plan)
