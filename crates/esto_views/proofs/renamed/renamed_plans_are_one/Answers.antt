use Rattle.esto_semantics.specs.Cores.{with_head}
use Rattle.esto_views.specs.Plans.{plan_query}
use Rattle.esto_views.proofs.RenamedOnceLemmas.{one_renamed}
use Rattle.esto_views.proofs.RenamedLemmas.{renamed-IsRenamedTo, renaming_undone}
use Rattle.esto_views.proofs.renamed.renamed_plans_are_one.Goals as goal

pub returns-clause-query : goal.returns-clause-query
returns-clause-query c = one_renamed

pub returns-clause-undone : goal.returns-clause-undone
returns-clause-undone c = renaming_undone

pub returns-clause-one : goal.returns-clause-one
returns-clause-one c names rows head plan other = one_renamed names (with_head head rows) (plan_query plan) (plan_query other) plan.names other.names

pub returns-clause-renamed : goal.returns-clause-renamed
returns-clause-renamed c names rows head plan = renamed-IsRenamedTo names (with_head head rows) (plan_query plan) plan.names
