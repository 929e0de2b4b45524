-- Plans, read as queries over fragments.
use Rattle.std.specs.Prelude.{◌≡◌, List, Some, length, map, slice_get, Contains}
use Rattle.esto_term.specs.declared.term.Term.{Term}
use Rattle.esto_semantics.specs.Queries.{ConjunctiveQuery}
use Rattle.esto_semantics.specs.declared.fact.Fact.{Fact}
use Rattle.esto_views.specs.Fragments.{IsFragment}
use Rattle.esto_views.specs.declared.fragments.FragmentDef.{FragmentDef}
use Rattle.esto_views.specs.declared.plan.PlanAtom.{PlanAtom}
use Rattle.esto_views.specs.declared.plan.Plan.{Plan}

-- The atom as a fact over fragments, which has the fragment's number as its relation.
abbrev pub fact_of : PlanAtom → Fact Term
fact_of atom = record { relation = atom.fragment; terms = atom.terms }

-- The plan without its names: a query over fragments.
abbrev pub plan_query : Plan → ConjunctiveQuery
plan_query plan = record { head = plan.head; body = map fact_of plan.atoms }

-- The atom is over the fragments: it names one of them, which is well made and has as many columns as the atom has terms.
abbrev pub IsAtomOver : PlanAtom → List FragmentDef → Type 0
IsAtomOver atom fragments =
    (fragment : FragmentDef) × (slice_get fragments atom.fragment ≡ Some fragment)
    × IsFragment fragment × (length atom.terms ≡ length fragment.view.head)

-- Each atom of the plan is over the fragments.
abbrev pub IsPlanOver : Plan → List FragmentDef → Type 0
IsPlanOver plan fragments =
    (atom : PlanAtom) → Contains plan.atoms atom → IsAtomOver atom fragments
