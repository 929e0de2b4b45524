use Rattle.esto_top.proofs.RunEndLemmas.{ends_ends, plans_ends}
use Rattle.esto_top.proofs.ends.queries_have_plans_or_clashes.Goals as goal

pub returns-clause-plans : goal.returns-clause-plans
returns-clause-plans c = λ catalogue query. plans_ends c.laws_below_hold.ensures catalogue query

pub returns-clause-ends : goal.returns-clause-ends
returns-clause-ends c = λ catalogue query. ends_ends c.laws_below_hold.ensures catalogue query
