-- The cored plan: its terms are flat, it maps to the plan and back, and it is one.
use Rattle.std.proofs.Common.{◌≡◌, List, length, slice_get, Contains, sym, ap, ◌∙◌, subst}
use Rattle.std.proofs.lemmas.List.{length-map}
use Rattle.esto_term.specs.declared.term.Term.{Term}
use Rattle.esto_term.proofs.ListLemmas.{Contains-map, Contains-map_from}
use Rattle.esto_semantics.specs.Facts.{image}
use Rattle.esto_semantics.specs.Instances.{MapsTo}
use Rattle.esto_semantics.specs.Maps.{IsFlat}
use Rattle.esto_semantics.specs.Queries.{ConjunctiveQuery}
use Rattle.esto_semantics.specs.Rewritings.{IsPlanFor}
use Rattle.esto_semantics.specs.declared.fact.Fact.{Fact}
use Rattle.esto_semantics.specs.CoreLaws.{MapsCompose, LeftIsChosen, MapsToLeft, LeftMapsBack, LeftIsCore, LeftIsOne, RenamedIsReached, RenamedMapsBack}
use Rattle.esto_semantics.specs.CoreLaws.{RenamedIsCore}
use Rattle.esto_semantics.specs.Cores.{with_head, IsCore, IsRenamedTo}
use Rattle.esto_views.specs.Plans.{fact_of, plan_query, IsPlanOver}
use Rattle.esto_views.specs.Soundness.{IsSoundPlan}
use Rattle.esto_views.specs.declared.fragments.FragmentDef.{FragmentDef}
use Rattle.esto_views.specs.declared.plan.Plan.{Plan}
use Rattle.esto_views.proofs.FlatLemmas.{named-flat, plan_atoms-flat}
use Rattle.esto_views.specs.RenamedLaws.{RenamedPlanIsOne, RenamedPlanIsRenamed}
use Rattle.esto_views.specs.Renamed.{IsRenamedPlan}
use Rattle.esto_core.specs.Cored.{IsCoredPlan, IsPart}
use Rattle.esto_core.specs.CoredLaws.{CoredIsOne}

-- ---- the terms of a plan

pub head-flat : (plan : Plan) → IsSoundPlan plan.atoms plan.head plan.names → (term : Term) → Contains plan.head term → IsFlat term
head-flat plan sound term inside = named-flat plan term (sound.named_head term inside)

pub plan-IsPlanFor : (query : ConjunctiveQuery) (plan : Plan) → IsSoundPlan plan.atoms plan.head plan.names → length plan.head ≡ length query.head
    → IsPlanFor query (plan_query plan)
plan-IsPlanFor query plan sound lengths = record { same_length = lengths; has_head = sound.has_head; flat_body = plan_atoms-flat plan sound }

-- ---- the cored plan

module _ (plan cored : Plan) (is_cored : IsCoredPlan plan cored) where
  -- what is left, with the plan's head
  abbrev kept : ConjunctiveQuery
  kept = with_head plan.head is_cored.left

  renamed_by : RenamedPlanIsRenamed → IsRenamedTo kept (plan_query cored)
  renamed_by renamed = renamed plan.names is_cored.left plan.head cored is_cored.renamed

  pub cored-there : MapsToLeft → RenamedPlanIsRenamed → RenamedIsReached → MapsCompose → MapsTo (plan_query plan) (plan_query cored)
  cored-there to_left renamed reached compose =
      compose (plan_query plan) kept (plan_query cored) (to_left (plan_query plan) is_cored.left is_cored.are_left)
      (reached kept (plan_query cored) (renamed_by renamed))

  pub cored-back : LeftMapsBack → RenamedPlanIsRenamed → RenamedMapsBack → MapsCompose → MapsTo (plan_query cored) (plan_query plan)
  cored-back from_left renamed back compose =
      compose (plan_query cored) kept (plan_query plan) (back kept (plan_query cored) (renamed_by renamed))
      (from_left (plan_query plan) is_cored.left is_cored.are_left)

  pub cored-IsCore : LeftIsCore → RenamedPlanIsRenamed → RenamedIsCore → IsCore (plan_query cored)
  cored-IsCore left renamed core = core kept (plan_query cored) (renamed_by renamed) (left (plan_query plan) is_cored.left is_cored.are_left)

  pub cored-IsPart : LeftIsChosen → IsPart plan cored
  cored-IsPart left =
      let found = left (plan_query plan) is_cored.left is_cored.are_left in (
        found.0,
        found.1 ∙ length-map plan.atoms fact_of,
        subst (λ rows. IsRenamedPlan plan.names rows plan.head cored) found.2 is_cored.renamed,
      )

-- a plan that maps to one over the fragments is over them
pub over-back : (plan other : Plan) (fragments : List FragmentDef) → MapsTo (plan_query other) (plan_query plan) → IsPlanOver plan fragments
    → IsPlanOver other fragments
over-back plan other fragments maps is_over atom inside =
    let own = Contains-map_from fact_of plan.atoms (image maps.0 (fact_of atom)) (maps.2 (fact_of atom) (Contains-map fact_of other.atoms atom inside)) in
    let there = is_over own.0 own.1 in
    let relation : own.0.fragment ≡ atom.fragment = ap (λ (it : Fact Term). it.relation) own.2 in
    let lengths : length atom.terms ≡ length own.0.terms =
    sym (length-map atom.terms maps.0) ∙ ap (λ (it : Fact Term). length it.terms) (sym own.2) in
    (there.0, ap (slice_get fragments) (sym relation) ∙ there.1, there.2, lengths ∙ there.3)

-- plans that map to each other, head to head, have heads of one length
pub same_length-there : (plan other : Plan) → MapsTo (plan_query plan) (plan_query other) → length other.head ≡ length plan.head
same_length-there plan other maps = ap length (sym maps.3) ∙ length-map plan.head maps.0

-- there is one cored plan
pub cored-one : LeftIsOne → RenamedPlanIsOne → CoredIsOne
cored-one left renamed plan cored other is_cored again =
    let same = left (plan_query plan) again.left is_cored.left again.are_left is_cored.are_left in
    renamed plan.names is_cored.left plan.head cored other is_cored.renamed
    (subst (λ rows. IsRenamedPlan plan.names rows plan.head other) same again.renamed)
