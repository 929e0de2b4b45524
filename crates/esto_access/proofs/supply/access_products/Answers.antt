use Rattle.std.proofs.Common.{◌∙◌}
use Rattle.std.proofs.lemmas.List.{length-map}
use Rattle.esto_views.specs.Fragments.{patterns_of}
use Rattle.esto_views.specs.Plans.{fact_of, plan_query}
use Rattle.esto_access.proofs.SupplyLemmas.{product_tells, product_least}
use Rattle.esto_access.proofs.supply.access_products.Goals as goal

pub returns-clause-tell : goal.returns-clause-tell
returns-clause-tell c = product_tells (patterns_of c.args.fragments.now) (plan_query c.args.plan.now).body c.in_ok-supplies.supplies
    c.in_ok-supplies.ensures.supplies c.in_ok-supplies.ensures.tell

pub returns-clause-least : goal.returns-clause-least
returns-clause-least c = product_least (patterns_of c.args.fragments.now) (plan_query c.args.plan.now).body c.in_ok-supplies.supplies
    c.in_ok-supplies.ensures.supplies c.in_ok-supplies.ensures.tell

pub returns-clause-counts : goal.returns-clause-counts
returns-clause-counts c = λ number it at. c.in_ok-supplies.ensures.supplies.counts number it at ∙ length-map c.args.plan.now.atoms fact_of

pub returns-clause-count : goal.returns-clause-count
returns-clause-count c = c.in_ok-supplies.ensures.supplies.each ∙ length-map c.args.plan.now.atoms fact_of
