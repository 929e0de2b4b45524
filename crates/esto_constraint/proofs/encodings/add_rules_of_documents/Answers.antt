use Rattle.std.proofs.Common.{map, take}
use Rattle.esto_constraint.proofs.EncodingLemmas.{grown, after}
use Rattle.esto_constraint.specs.Constraints.{rules_of}
use Rattle.esto_constraint.specs.EncodingRules.{document_names, written}
use Rattle.esto_semantics.specs.DocumentRules.{document_rules}
use Rattle.esto_constraint.proofs.encodings.add_rules_of_documents.Goals as goal

pub returns-clause-rules : goal.returns-clause-rules
returns-clause-rules c =
    after (rules_of c.args.rules.now) _ _ (take 6 (document_rules c.args.base)) _ c.add_tuple_rule-2.result
    (grown (rules_of c.args.rules.now) _ _ (take 5 (document_rules c.args.base)) _ c.in_ok-add_rules_of_values.ensures.rules
    c.in_ok-add_tuple_rule.ensures.rules)
    c.add_tuple_rule-2.ensures.rules

pub returns-clause-names : goal.returns-clause-names
unfolding lib.Utf8.encode
returns-clause-names c =
    after (map written c.args.rules.now) _ _ (take 6 document_names) _ c.add_tuple_rule-2.result
    (grown (map written c.args.rules.now) _ _ (take 5 document_names) _ c.in_ok-add_rules_of_values.ensures.names
    c.in_ok-add_tuple_rule.ensures.names)
    c.add_tuple_rule-2.ensures.names
