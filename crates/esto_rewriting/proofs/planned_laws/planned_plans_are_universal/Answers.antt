use Rattle.esto_constraint.specs.Constraints.{rules_of}
use Rattle.esto_query.specs.Making.{query_of}
use Rattle.esto_views.specs.Fragments.{views_of}
use Rattle.esto_constraint.proofs.RuleLemmas.{are_rules}
use Rattle.esto_rewriting.proofs.planned_laws.planned_plans_are_universal.Goals as goal

pub returns-clause-universal : goal.returns-clause-universal
returns-clause-universal c = λ catalogue query plan planned.
    c.printed_plans_are_universal.ensures.universal catalogue.core (rules_of catalogue.rules) (views_of catalogue.fragments) query.names (query_of query) plan
    (are_rules c.rules_are_sound.ensures.rules catalogue.rules) (c.queries_are_sound.ensures query).query planned

pub returns-clause-unions : goal.returns-clause-unions
returns-clause-unions c = λ catalogue query plan planned.
    c.printed_plans_are_universal.ensures.unions catalogue.core (rules_of catalogue.rules) (views_of catalogue.fragments) query.names (query_of query) plan
    (are_rules c.rules_are_sound.ensures.rules catalogue.rules) (c.queries_are_sound.ensures query).query planned

pub returns-clause-core : goal.returns-clause-core
returns-clause-core c = λ catalogue query plan planned asked.
    c.printed_plans_are_universal.ensures.core catalogue.core (rules_of catalogue.rules) (views_of catalogue.fragments) query.names (query_of query) plan asked
    planned

pub returns-clause-only_core : goal.returns-clause-only_core
returns-clause-only_core c = λ catalogue query plan planned asked.
    c.printed_cores_are_one_for_a_query.ensures catalogue.core (rules_of catalogue.rules) (views_of catalogue.fragments) query.names (query_of query) plan
    (are_rules c.rules_are_sound.ensures.rules catalogue.rules) (c.queries_are_sound.ensures query).query asked planned

pub returns-clause-satisfiable : goal.returns-clause-satisfiable
returns-clause-satisfiable c = λ catalogue query plan planned.
    c.printed_plans_tell_satisfiable_queries.ensures catalogue.core (rules_of catalogue.rules) (views_of catalogue.fragments) query.names (query_of query) plan
    (are_rules c.rules_are_sound.ensures.rules catalogue.rules) (c.queries_are_sound.ensures query).query planned

pub returns-clause-unsatisfiable : goal.returns-clause-unsatisfiable
returns-clause-unsatisfiable c = λ catalogue query clash clashes.
    c.plans_tell_satisfiable_queries.ensures.clash (rules_of catalogue.rules) (query_of query) clash
    (are_rules c.rules_are_sound.ensures.rules catalogue.rules) (c.queries_are_sound.ensures query).query clashes
