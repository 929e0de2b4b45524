use Rattle.std.proofs.lemmas.Result.{IfOk-weaker}
use Rattle.esto_query.specs.Making.{query_of}
use Rattle.esto_constraint.specs.Constraints.{rules_of}
use Rattle.esto_views.specs.Fragments.{views_of}
use Rattle.esto_chase.proofs.OutcomeLemmas.{on_either}
use Rattle.esto_constraint.proofs.RuleLemmas.{are_rules}
use Rattle.esto_rewriting.proofs.printed.printed_plan.Goals as goal

pub returns-clause-over : goal.returns-clause-over
returns-clause-over c =
    let it = c.args.catalogue.now in
    let query = c.args.query.now in
    IfOk-weaker c.plan_or_clash.result _ _ (λ outcome ended. on_either outcome
    (λ plan printed. c.printed_plans_are_over_fragments.ensures.over it.core (rules_of it.rules) it.fragments query.names (query_of query) plan
    (c.catalogues_are_sound.ensures it).fragments_are printed)
    (λ clash clashes. tt) ended) c.plan_or_clash.ensures

pub returns-clause-universal : goal.returns-clause-universal
returns-clause-universal c =
    let it = c.args.catalogue.now in
    let query = c.args.query.now in
    IfOk-weaker c.plan_or_clash.result _ _ (λ outcome ended. on_either outcome
    (λ plan printed. c.printed_plans_are_universal.ensures.universal it.core (rules_of it.rules) (views_of it.fragments) query.names (query_of query) plan
    (are_rules c.rules_are_sound.ensures.rules it.rules) (c.queries_are_sound.ensures query).query printed)
    (λ clash clashes. tt) ended) c.plan_or_clash.ensures

pub returns-clause-unions : goal.returns-clause-unions
returns-clause-unions c =
    let it = c.args.catalogue.now in
    let query = c.args.query.now in
    IfOk-weaker c.plan_or_clash.result _ _ (λ outcome ended. on_either outcome
    (λ plan printed. c.printed_plans_are_universal.ensures.unions it.core (rules_of it.rules) (views_of it.fragments) query.names (query_of query) plan
    (are_rules c.rules_are_sound.ensures.rules it.rules) (c.queries_are_sound.ensures query).query printed)
    (λ clash clashes. tt) ended) c.plan_or_clash.ensures

pub returns-clause-core : goal.returns-clause-core
returns-clause-core c =
    let it = c.args.catalogue.now in
    let query = c.args.query.now in
    IfOk-weaker c.plan_or_clash.result _ _ (λ outcome ended. on_either outcome
    (λ plan printed asked. c.printed_plans_are_universal.ensures.core it.core (rules_of it.rules) (views_of it.fragments) query.names (query_of query) plan
    asked printed)
    (λ clash clashes. tt) ended) c.plan_or_clash.ensures

pub returns-clause-satisfiable : goal.returns-clause-satisfiable
returns-clause-satisfiable c =
    let it = c.args.catalogue.now in
    let query = c.args.query.now in
    IfOk-weaker c.plan_or_clash.result _ _ (λ outcome ended. on_either outcome
    (λ plan printed. c.printed_plans_tell_satisfiable_queries.ensures it.core (rules_of it.rules) (views_of it.fragments) query.names (query_of query) plan
    (are_rules c.rules_are_sound.ensures.rules it.rules) (c.queries_are_sound.ensures query).query printed)
    (λ clash clashes. c.plans_tell_satisfiable_queries.ensures.clash (rules_of it.rules) (query_of query) clash
    (are_rules c.rules_are_sound.ensures.rules it.rules) (c.queries_are_sound.ensures query).query clashes)
    ended) c.plan_or_clash.ensures
