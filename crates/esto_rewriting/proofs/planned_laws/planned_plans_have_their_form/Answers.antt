use Rattle.esto_constraint.specs.Constraints.{rules_of}
use Rattle.esto_query.specs.Making.{query_of}
use Rattle.esto_views.specs.Fragments.{views_of}
use Rattle.esto_views.proofs.FormLemmas.{plan_form}
use Rattle.esto_rewriting.proofs.planned_laws.planned_plans_have_their_form.Goals as goal

pub returns-clause-form : goal.returns-clause-form
returns-clause-form c = λ catalogue query plan planned.
    plan_form (λ it. (c.queries_are_their_own_instances.ensures.universal it).maps) (rules_of catalogue.rules) (views_of catalogue.fragments)
    (query_of query) plan (c.plans_are_sound.ensures plan) (c.planned_plans_are_universal.ensures.unions catalogue query plan planned)
    (c.planned_plans_are_universal.ensures.satisfiable catalogue query plan planned)

pub returns-clause-over : goal.returns-clause-over
returns-clause-over c = λ catalogue query plan planned.
    c.printed_plans_are_over_fragments.ensures.over catalogue.core (rules_of catalogue.rules) catalogue.fragments query.names (query_of query) plan
    (c.catalogues_are_sound.ensures catalogue).fragments_are planned
