use Rattle.esto_query.specs.Making.{query_of}
use Rattle.esto_views.proofs.InnerLemmas.{AreInnerBelow}
use Rattle.esto_views.proofs.inner.inner_variables.Given as goal

abbrev pub invariant-variables : goal.invariant-variables
invariant-variables l = AreInnerBelow (query_of l.view) l.variable l.variables
