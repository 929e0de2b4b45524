use Rattle.std.proofs.Common.{◌≡◌, ◌+◌, ◌∷◌, ◌++◌, [], map, subst, arith}
use Rattle.std.specs.Result.{OnOk}
use Rattle.esto_semantics.specs.Rules.{denial}
use Rattle.esto_constraint.proofs.EncodingLemmas.{after}
use Rattle.esto_constraint.specs.Constraints.{rules_of}
use Rattle.esto_constraint.specs.EncodingRules.{document_names, written}
use Rattle.esto_semantics.specs.DocumentRules.{atom, below, document_rules}
use Rattle.esto_constraint.proofs.encodings.add_rules_of_documents_2.Goals as goal

pub returns-clause-rules : goal.returns-clause-rules
returns-clause-rules c =
    let same : c.args.base ≡ c.args.base + 0 = omega arith in
    after (rules_of c.args.rules.now) _ _ (document_rules c.args.base) _ c.add_denial.result c.in_ok-add_rules_of_documents.ensures.rules
    (subst (λ root. OnOk c.add_denial.result (rules_of c.add_denial.new.rules ≡ rules_of c.add_rules_of_documents.new.rules
    ++ denial (atom root (0 ∷ []) ∷ below c.args.base (1 ∷ 0 ∷ []) ∷ []) ∷ [])) same c.add_denial.ensures.rules)

pub returns-clause-names : goal.returns-clause-names
unfolding lib.Utf8.encode
returns-clause-names c =
    after (map written c.args.rules.now) _ _ document_names _ c.add_denial.result c.in_ok-add_rules_of_documents.ensures.names
    c.add_denial.ensures.names
