use Rattle.std.proofs.Common.{arith, ◌≤◌, length}
use Rattle.esto_course.proofs.Steps.{at_exit, each_goes, leads_itself}
use Rattle.esto_catalog.specs.Constraints.{adds_constraint, reads_constraints}
use Rattle.esto_catalog.proofs.WalkLemmas.{rule_turn, rule_fails, rules_more, no_rules}
use Rattle.esto_catalog.proofs.constraint.read_constraints.Goals as goal

pub entries-init : goal.entries-init
entries-init c = record { leads = rw c.new-rules.ensures (leads_itself _); sound = rw c.new-rules.ensures (no_rules _) }

pub entries-preserved : goal.entries-preserved
entries-preserved c = record {
  leads =
      rw c.in_ok-push.ensures.ok
      (rule_turn c.args.version c.args.scope.now.datasets c.args.entries.now _ c.entries.index c.entries.rules c.entries.invariant.leads
      c.index-entries-index.result
      c.entries-test.true c.index-entries-index.is _ c.entry-place.ensures _ c.items-fields.ensures c.in_ok-rule.rule c.in_ok-rule.ensures.rule);
  sound = rw c.in_ok-push.ensures.ok (rules_more _ c.entries.rules c.in_ok-rule.rule c.entries.invariant.sound c.in_ok-rule.ensures.over);
}

pub returns-in_err-rule-clause-rules : goal.returns-in_err-rule-clause-rules
returns-in_err-rule-clause-rules c =
    at_exit _ _ _ c.from_residual.ensures.1
    (rule_fails c.args.version c.args.scope.now.datasets c.args.entries.now _ c.entries.index c.entries.rules c.entries.invariant.leads
    c.index-entries-index.result
    c.entries-test.true c.index-entries-index.is _ c.entry-place.ensures _ c.items-fields.ensures _ c.in_err-rule.ensures.rule)

pub returns-clause-rules : goal.returns-clause-rules
returns-clause-rules c =
    let le : length c.args.entries.now ≤ c.entries.index = omega arith in
    each_goes (adds_constraint c.args.version c.args.scope.now.datasets) c.args.entries.now
    (reads_constraints c.args.version c.args.scope.now.datasets c.args.entries.now) _ c.entries.index c.entries.rules c.entries.invariant.leads le
