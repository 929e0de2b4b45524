use Rattle.std.proofs.Common.{◌≡◌, length}
use Rattle.esto_views.specs.Plans.{fact_of, plan_query}
use Rattle.esto_access.proofs.NeedLemmas.{AreMetByBelow}
use Rattle.esto_access.proofs.needs.meeting_any.Given as goal

abbrev pub invariant-patterns : goal.invariant-patterns
invariant-patterns l = (l.found.count ≡ length l.plan.atoms) × AreMetByBelow (plan_query l.plan).body l.supplies l.number (fact_of l.atom) l.pattern-items
    l.pattern-index l.found.sets
