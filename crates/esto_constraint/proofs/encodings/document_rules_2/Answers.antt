use Rattle.std.proofs.Common.{ap, map}
use Rattle.esto_constraint.proofs.EncodingLemmas.{begun}
use Rattle.esto_constraint.specs.Constraints.{rule_of}
use Rattle.esto_constraint.specs.EncodingRules.{document_names_2, written}
use Rattle.esto_semantics.specs.DocumentRules.{document_rules_2}
use Rattle.esto_constraint.proofs.encodings.document_rules_2.Goals as goal

pub returns-clause-rules : goal.returns-clause-rules
returns-clause-rules c =
    begun (map rule_of c.new-rules.result) _ (document_rules_2 c.args.base) (ap (map rule_of) c.new-rules.ensures)
    c.in_ok-add_rules_of_documents_2.ensures.rules

pub returns-clause-names : goal.returns-clause-names
returns-clause-names c =
    begun (map written c.new-rules.result) _ document_names_2 (ap (map written) c.new-rules.ensures) c.in_ok-add_rules_of_documents_2.ensures.names
