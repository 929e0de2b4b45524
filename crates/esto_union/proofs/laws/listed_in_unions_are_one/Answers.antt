use Rattle.esto_constraint.specs.Constraints.{rules_of}
use Rattle.esto_views.specs.Fragments.{views_of, patterns_of}
use Rattle.esto_views.specs.Plans.{plan_query}
use Rattle.esto_union.specs.Unions.{queries_of}
use Rattle.esto_union.proofs.laws.listed_in_unions_are_one.Goals as goal

pub returns : goal.returns
returns c = λ catalogue queries plan sets others ordered others_ordered listed others_listed.
    c.executable_unions_map_onto_sets.ensures.one (rules_of catalogue.rules) (views_of catalogue.fragments) (patterns_of catalogue.fragments)
    (queries_of queries) (plan_query plan) sets others (record { exact = listed; ordered = ordered })
    (record { exact = others_listed; ordered = others_ordered })
