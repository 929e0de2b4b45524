use Rattle.esto_read.proofs.RuleExact.{one_rule, no_rule_fault, one_rule_fault}
use Rattle.esto_read.proofs.rule.constraint_readings_are_determined.Goals as goal

pub returns-clause-reading : goal.returns-clause-reading
returns-clause-reading c version words schema bytes constraint other h =
    let trees = c.trees_are_determined.ensures in
    one_rule version (trees.constraint_tree version) words h.distinct schema bytes constraint other

pub returns-clause-apart : goal.returns-clause-apart
returns-clause-apart c version words schema bytes constraint fault h =
    let trees = c.trees_are_determined.ensures in
    no_rule_fault version (trees.constraint_tree version) (trees.constraint_apart version) words h.distinct schema bytes constraint fault

pub returns-clause-fault : goal.returns-clause-fault
returns-clause-fault c version words schema bytes fault other h =
    let trees = c.trees_are_determined.ensures in
    one_rule_fault version (trees.constraint_tree version) (trees.constraint_apart version) (trees.constraint_fault version) words h.distinct schema bytes
    fault other
