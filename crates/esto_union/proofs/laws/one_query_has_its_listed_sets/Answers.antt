use Rattle.std.proofs.Common.{[], ◌∷◌}
use Rattle.esto_constraint.specs.Constraints.{rules_of}
use Rattle.esto_query.specs.Making.{query_of}
use Rattle.esto_views.specs.Fragments.{views_of, patterns_of}
use Rattle.esto_views.specs.Plans.{plan_query}
use Rattle.esto_union.proofs.MemberLemmas.{form}
use Rattle.esto_union.proofs.laws.one_query_has_its_listed_sets.Goals as goal

pub returns : goal.returns
returns c = λ catalogue query plan set same plan_of.
    c.unions_of_one.ensures.listed (rules_of catalogue.rules) (views_of catalogue.fragments) (patterns_of catalogue.fragments) (query_of query)
    (plan_query plan) set (form c.plans_are_sound.ensures c.plans_receive_unions.ensures.universal catalogue (query ∷ []) query plan same)
    (c.plans_receive_unions.ensures.universal (rules_of catalogue.rules) (views_of catalogue.fragments) (query_of query) (plan_query plan) plan_of.receives)
