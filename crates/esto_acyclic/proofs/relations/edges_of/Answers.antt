use Rattle.esto_constraint.specs.Constraints.{rule_of}
use Rattle.esto_constraint.specs.Relations.{edges_of_rule}
use Rattle.esto_acyclic.proofs.PushLemmas.{flat_images}
use Rattle.esto_acyclic.proofs.relations.edges_of.Goals as goal

pub rules-preserved : goal.rules-preserved
rules-preserved c =
    flat_images rule_of edges_of_rule c.args.rules.now c.rules.rule-index c.rule-item.result c.rules-test.true c.rule-item.is
    c.rules.edges c.add_edges_of.new.edges c.rules.invariant c.in_ok-add_edges_of.ensures
