use Rattle.std.proofs.Common.{ap, map}
use Rattle.esto_constraint.proofs.EncodingLemmas.{begun}
use Rattle.esto_constraint.specs.Constraints.{rule_of}
use Rattle.esto_constraint.specs.EncodingRules.{document_names, written}
use Rattle.esto_semantics.specs.DocumentRules.{document_rules}
use Rattle.esto_constraint.proofs.encodings.document_rules.Goals as goal

pub returns-clause-rules : goal.returns-clause-rules
returns-clause-rules c =
    begun (map rule_of c.new-rules.result) _ (document_rules c.args.base) (ap (map rule_of) c.new-rules.ensures)
    c.in_ok-add_rules_of_documents.ensures.rules

pub returns-clause-names : goal.returns-clause-names
returns-clause-names c =
    begun (map written c.new-rules.result) _ document_names (ap (map written) c.new-rules.ensures) c.in_ok-add_rules_of_documents.ensures.names
