use Rattle.std.proofs.Common.{ap, map}
use Rattle.esto_constraint.proofs.EncodingLemmas.{begun}
use Rattle.esto_constraint.specs.Constraints.{rule_of}
use Rattle.esto_constraint.specs.EncodingRules.{key_names, written}
use Rattle.esto_semantics.specs.DocumentRules.{key_rules}
use Rattle.esto_constraint.proofs.encodings.key_rules.Goals as goal

pub returns-clause-rules : goal.returns-clause-rules
returns-clause-rules c =
    begun (map rule_of c.new-rules.result) _ (key_rules c.args.relation) (ap (map rule_of) c.new-rules.ensures) c.in_ok-add_equality_rule.ensures.rules

pub returns-clause-names : goal.returns-clause-names
unfolding lib.Utf8.encode
returns-clause-names c =
    begun (map written c.new-rules.result) _ key_names (ap (map written) c.new-rules.ensures) c.in_ok-add_equality_rule.ensures.names
