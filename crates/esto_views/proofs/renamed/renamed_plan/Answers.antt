use Rattle.std.proofs.Common.{sym, subst}
use Rattle.esto_views.specs.Reading.{terms_read, AreFirstOccurrences}
use Rattle.esto_views.proofs.renamed.renamed_plan.Goals as goal

pub plan_of_seen-requires-clause-seen : goal.plan_of_seen-requires-clause-seen
plan_of_seen-requires-clause-seen c =
    subst (AreFirstOccurrences (terms_read c.args.rows.now c.args.head.now)) (sym c.in_ok-indexed.ensures) c.in_ok-seen.ensures

pub returns : goal.returns
returns c = c.plan_of_seen.ensures
