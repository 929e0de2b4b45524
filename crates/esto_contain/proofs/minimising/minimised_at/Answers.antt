use Rattle.std.proofs.Common.{◌≢◌, [], sym, subst}
use Rattle.esto_constraint.specs.Constraints.{rules_of}
use Rattle.esto_instance.specs.Instances.{state_of}
use Rattle.esto_query.specs.Making.{query_of}
use Rattle.esto_constraint.proofs.RuleLemmas.{are_rules}
use Rattle.esto_contain.proofs.MinimisedLemmas.{end_satisfies, end_universal, facts_flat, facts_named, facts_renamed, facts_universal, head_stays}
use Rattle.esto_contain.proofs.minimising.minimised_at.Goals as goal

pub renamed_plan-requires : goal.renamed_plan-requires
renamed_plan-requires c =
    let query = query_of c.args.query.now in
    let is_query = (c.queries_are_sound.ensures c.args.query.now).query in
    let maps = (end_universal c.states_are_universal.ensures.query (rules_of c.args.catalogue.now.rules) query (state_of c.args.end.now)
    (are_rules c.rules_are_sound.ensures.rules c.args.catalogue.now.rules) is_query c.requires).maps in
    subst (λ it. it ≢ []) (sym c.head.ensures) (head_stays maps.0 query.head (state_of c.args.end.now).head is_query.has_head maps.3)

pub equivalent_parts-requires-clause-flat : goal.equivalent_parts-requires-clause-flat
equivalent_parts-requires-clause-flat c = facts_flat c.in_ok-plan.plan (c.plans_are_sound.ensures c.in_ok-plan.plan) c.in_ok-facts.facts c.in_ok-facts.ensures

pub equivalent_parts-requires-clause-universal : goal.equivalent_parts-requires-clause-universal
equivalent_parts-requires-clause-universal c =
    let rules = rules_of c.args.catalogue.now.rules in
    let query = query_of c.args.query.now in
    let end = state_of c.args.end.now in
    facts_universal c.in_ok-plan.plan (c.plans_are_sound.ensures c.in_ok-plan.plan) c.in_ok-facts.facts c.in_ok-facts.ensures
    c.maps_between_plans_compose.ensures c.renamed_plans_are_one.ensures.renamed c.renamed_plans_are_alike.ensures.there
    c.renamed_plans_are_alike.ensures.back c.args.query.now.names rules query end.body end.head
    (rw (c.facts.ensures, c.head.ensures) at c.in_ok-plan.ensures)
    (end_universal c.states_are_universal.ensures.query rules query end
    (are_rules c.rules_are_sound.ensures.rules c.args.catalogue.now.rules) (c.queries_are_sound.ensures c.args.query.now).query c.requires)

pub equivalent_parts-requires-clause-satisfiable : goal.equivalent_parts-requires-clause-satisfiable
equivalent_parts-requires-clause-satisfiable c =
    end_satisfies c.states_are_universal.ensures.query c.universal_instances_satisfy_queries.ensures.under_rules (rules_of c.args.catalogue.now.rules)
    (query_of c.args.query.now) (state_of c.args.end.now)
    (are_rules c.rules_are_sound.ensures.rules c.args.catalogue.now.rules) (c.queries_are_sound.ensures c.args.query.now).query c.requires

pub returns-clause-minimised : goal.returns-clause-minimised
returns-clause-minimised c =
    let end = state_of c.args.end.now in
    record {
      end = end;
      finishes = c.requires;
      renamed = facts_renamed c.in_ok-plan.plan (c.plans_are_sound.ensures c.in_ok-plan.plan) c.in_ok-facts.facts c.in_ok-facts.ensures
          c.args.query.now.names end.body end.head (rw (c.facts.ensures, c.head.ensures) at c.in_ok-plan.ensures);
      count = c.in_ok-sets.ensures.count;
      exact = c.in_ok-sets.ensures.exact;
    }

pub returns-clause-names : goal.returns-clause-names
returns-clause-names c = facts_named c.in_ok-plan.plan (c.plans_are_sound.ensures c.in_ok-plan.plan) c.in_ok-facts.facts c.in_ok-facts.ensures
