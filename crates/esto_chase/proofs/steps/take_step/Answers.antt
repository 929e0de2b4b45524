use Rattle.std.proofs.Common.{ap}
use Rattle.esto_semantics.specs.Rules.{tuple}
use Rattle.esto_constraint.specs.Constraints.{rule_of}
use Rattle.esto_chase.proofs.StepLemmas.{is_over, sides_differ, denied, added-IsTaken, merged-IsTaken, clashes-HasClashed, on_ok, on_option}
use Rattle.esto_chase.proofs.steps.take_step.Goals as goal

pub add_made-requires : goal.add_made-requires
add_made-requires c =
    is_over c.args.rules.now c.args.instance.now c.args.next.rule c.args.next.found c.requires c.item.result.now c.item.ensures
    (tuple c.in-Tuple.rule.body c.in-Tuple.rule.head) (ap rule_of c.in-Tuple.is)

pub merge_sides-requires : goal.merge_sides-requires
merge_sides-requires c =
    sides_differ c.args.rules.now c.args.instance.now c.args.next.rule c.args.next.found c.requires c.item.result.now c.item.ensures
    c.in-Equal.rule.body c.in-Equal.rule.left c.in-Equal.rule.right (ap rule_of c.in-Equal.is)

pub returns-in-Equal : goal.returns-in-Equal
returns-in-Equal c = on_ok c.merge_sides.result (λ outcome. on_option outcome
    (merged-IsTaken c.args.rules.now c.args.instance.now c.args.next.rule c.args.next.found c.requires c.item.result.now c.item.ensures
    c.in-Equal.rule.body c.in-Equal.rule.left c.in-Equal.rule.right (ap rule_of c.in-Equal.is) c.merge_sides.new.instance)
    (clashes-HasClashed c.args.rules.now c.args.instance.now c.args.next.rule c.args.next.found c.requires c.item.result.now c.item.ensures
    c.in-Equal.rule.body c.in-Equal.rule.left c.in-Equal.rule.right (ap rule_of c.in-Equal.is))) c.merge_sides.ensures

pub returns-in-Never : goal.returns-in-Never
returns-in-Never c =
    denied c.args.rules.now c.args.instance.now c.args.next.rule c.args.next.found c.requires c.item.result.now c.item.ensures
    c.in-Never.field-0.body (ap rule_of c.in-Never.is)

pub returns-in_ok-add_made-in-Tuple : goal.returns-in_ok-add_made-in-Tuple
returns-in_ok-add_made-in-Tuple c =
    added-IsTaken c.args.rules.now c.args.instance.now c.args.next.rule c.args.next.found c.requires c.item.result.now c.item.ensures
    c.in-Tuple.rule.body c.in-Tuple.rule.head (ap rule_of c.in-Tuple.is) c.add_made.new.instance
    c.in_ok-add_made-in-Tuple.ensures.facts c.in_ok-add_made-in-Tuple.ensures.head c.in_ok-add_made-in-Tuple.ensures.trace
