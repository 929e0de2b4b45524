use Rattle.std.proofs.Common.{arith, subst}
use Rattle.esto_catalog.proofs.EncodingLemmas.{rules_end, rules_goes, rules_start}
use Rattle.esto_catalog.specs.Rules.{AreAllRules}
use Rattle.esto_catalog.proofs.rules.with_encodings.Goals as goal

pub datasets-init : goal.datasets-init
datasets-init c = rules_start c.args.version _ _ c.args.given c.requires.over

pub datasets-preserved : goal.datasets-preserved
datasets-preserved c =
    rw c.in_ok-append.ensures.ok
    (rules_goes c.args.version c.args.scope.now _ c.args.given c.datasets.rules c.in_ok-more.more c.datasets.dataset-index c.dataset-item.result
    c.requires.scope c.items-dataset-items.ensures c.datasets.invariant c.datasets-test.true c.dataset-item.is c.in_ok-more.ensures.rules
    c.in_ok-more.ensures.names)

pub returns-clause-rules : goal.returns-clause-rules
returns-clause-rules c =
    subst (λ d. AreAllRules c.args.version d c.args.given c.datasets.rules) c.items-dataset-items.ensures
    (rules_end c.args.version _ _ c.args.given c.datasets.rules c.datasets.dataset-index (omega arith) c.datasets.invariant)
