use Rattle.std.proofs.Common.{◌∙◌, refl}
use Rattle.esto_term.proofs.PlaceLemmas.{read_at}
use Rattle.esto_views.specs.Plans.{fact_of, plan_query}
use Rattle.esto_access.proofs.NeedLemmas.{met_by_grows, met_by_end}
use Rattle.esto_access.proofs.needs.meeting_any.Goals as goal

pub patterns-preserved : goal.patterns-preserved
patterns-preserved c =
    let items = c.items-pattern-items.result.now in (
      c.add_meeting.ensures.count ∙ c.patterns.invariant.0,
      met_by_grows (plan_query c.args.plan.now).body c.args.supplies.now c.args.number (fact_of c.args.atom.now) items c.patterns.pattern-index
          c.pattern-item.result
          (read_at items items refl c.patterns.pattern-index c.pattern-item.result c.patterns-test.true c.pattern-item.is) c.patterns.found.sets
          c.add_meeting.new.found.sets c.in_ok-add_meeting.ensures.covers c.patterns.invariant.1,
    )

pub returns-clause-covers : goal.returns-clause-covers
returns-clause-covers c =
    met_by_end (plan_query c.args.plan.now).body c.args.supplies.now c.args.number (fact_of c.args.atom.now) c.args.patterns.now
    c.items-pattern-items.result.now c.items-pattern-items.ensures c.patterns.pattern-index
    c.patterns.found.sets c.patterns-test.false c.patterns.invariant.1
