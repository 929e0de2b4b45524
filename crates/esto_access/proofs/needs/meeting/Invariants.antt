use Rattle.std.proofs.Common.{◌≡◌, length}
use Rattle.esto_views.specs.Plans.{fact_of, plan_query}
use Rattle.esto_access.proofs.NeedLemmas.{AreMetBelow}
use Rattle.esto_access.proofs.needs.meeting.Given as goal

abbrev pub invariant-columns : goal.invariant-columns
invariant-columns l = (l.found.count ≡ length l.plan.atoms) × AreMetBelow (plan_query l.plan).body l.supplies l.number (fact_of l.atom) l.pattern l.column
    l.found.sets
