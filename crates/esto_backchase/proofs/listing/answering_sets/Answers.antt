use Rattle.std.proofs.Common.{◌≡◌, List, Bool, length, subst, ◌∙◌}
use Rattle.std.proofs.lemmas.List.{length-map}
use Rattle.esto_constraint.specs.Constraints.{rules_of}
use Rattle.esto_query.specs.Making.{query_of}
use Rattle.esto_semantics.specs.Rewritings.{IsPlanFor}
use Rattle.esto_term.specs.Sets.{Rises}
use Rattle.esto_views.specs.Fragments.{views_of}
use Rattle.esto_views.specs.Plans.{fact_of, plan_query}
use Rattle.esto_views.proofs.FlatLemmas.{plan_atoms-flat}
use Rattle.esto_backchase.specs.Candidates.{Answers}
use Rattle.esto_backchase.specs.Searching.{Visited}
use Rattle.esto_backchase.proofs.VisitLemmas.{visited-minimal}
use Rattle.esto_backchase.proofs.listing.answering_sets.Goals as goal

pub visit_all-requires-clause-search : goal.visit_all-requires-clause-search
visit_all-requires-clause-search c = record {
  same_length = c.requires.same_length;
  universal = c.requires.universal;
  expands = c.in_ok-expanded.ensures.expands;
  flat = c.in_ok-expanded.ensures.flat;
}

pub visit_all-requires-clause-rises : goal.visit_all-requires-clause-rises
visit_all-requires-clause-rises c =
    let plan = c.args.plan.now in
    let sound = c.plans_are_sound.ensures plan in
    let is_plan : IsPlanFor (query_of c.args.query.now) (plan_query plan) =
    record { same_length = c.requires.same_length; has_head = sound.has_head; flat_body = plan_atoms-flat plan sound } in
    subst (λ count. Rises count (Answers c.args.catalogue.now c.args.query.now plan)) (length-map plan.atoms fact_of)
    (c.listed_sets_are_executable.ensures.rises (rules_of c.args.catalogue.now.rules) (views_of c.args.catalogue.now.fragments)
    (query_of c.args.query.now) (plan_query plan) is_plan c.requires.universal)

pub returns-clause-minimal : goal.returns-clause-minimal
returns-clause-minimal c =
    let Pass = Answers c.args.catalogue.now c.args.query.now c.args.plan.now in
    let count = length c.args.plan.now.atoms in
    let counted : (other : List Bool) → Pass other → length other ≡ count =
    λ other passes. passes.has_candidate.over ∙ length-map c.args.plan.now.atoms fact_of in
    visited-minimal Pass count (λ other. length other ≡ count) c.visit_all.new.found.sets counted counted c.products_are_antichains.ensures.antichain
    (subst (λ sets. Visited Pass (λ other. length other ≡ count) sets c.visit_all.new.found.sets) c.new-found.ensures.empty
    c.in_ok-visit_all.ensures.visited)
