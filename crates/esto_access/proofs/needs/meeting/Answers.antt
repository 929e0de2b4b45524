use Rattle.std.proofs.Common.{◌∙◌, ◌≤◌, subst, length}
use Rattle.esto_term.proofs.PlaceLemmas.{read_at}
use Rattle.esto_views.specs.Plans.{fact_of, plan_query}
use Rattle.esto_access.proofs.NeedLemmas.{met_start, met_turns, met_end}
use Rattle.esto_access.proofs.needs.meeting.Goals as goal

pub columns-init : goal.columns-init
columns-init c = (
  c.in_ok-found.ensures.count ∙ c.len.ensures,
  met_start (plan_query c.args.plan.now).body c.args.supplies.now c.args.number (fact_of c.args.atom.now) c.args.pattern.now c.in_ok-found.found.sets
      c.in_ok-found.ensures.covers,
)

pub columns-preserved : goal.columns-preserved
columns-preserved c = (
  c.in_ok-bind_input.ensures.count,
  met_turns (plan_query c.args.plan.now).body c.args.supplies.now c.args.number (fact_of c.args.atom.now) c.args.pattern.now c.columns.column
      c.term-item.result
      (read_at c.args.atom.now.terms _ c.items-term-items.ensures c.columns.column c.term-item.result c.columns-test.true c.term-item.is)
      c.columns.found.sets c.columns.invariant.1
      c.bind_input.new.found.sets c.in_ok-bind_input.ensures.covers,
)

pub returns-clause-covers : goal.returns-clause-covers
returns-clause-covers c =
    met_end (plan_query c.args.plan.now).body c.args.supplies.now c.args.number (fact_of c.args.atom.now) c.args.pattern.now c.columns.column
    c.columns.found.sets
    (subst (λ items. length items ≤ c.columns.column) c.items-term-items.ensures c.columns-test.false) c.columns.invariant.1
