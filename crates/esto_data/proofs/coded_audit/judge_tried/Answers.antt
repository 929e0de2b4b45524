use Rattle.std.proofs.Common.{refl, sym, ◌∙◌}
use Rattle.std.proofs.lemmas.Bool.{false≢true}
use Rattle.esto_constraint.specs.Constraints.{rule_of, rules_of}
use Rattle.esto_data.proofs.CodedAuditLemmas.{law_judged, tried_judged}
use Rattle.esto_data.proofs.CodedRowLemmas.{stays_by, stays_itself}
use Rattle.esto_data.proofs.coded_audit.judge_tried.Goals as goal

pub returns-then-is_law-clause-judged : goal.returns-then-is_law-clause-judged
returns-then-is_law-clause-judged c loaded its =
    law_judged (rules_of c.args.laws.now) loaded.facts (rule_of c.args.rule.now) (c.is_law.ensures.0 c.if-is_law.true)

pub returns-then-is_law-clause-stays : goal.returns-then-is_law-clause-stays
returns-then-is_law-clause-stays c = stays_itself c.args.coded.now

pub returns-clause-judged : goal.returns-clause-judged
returns-clause-judged c =
    tried_judged (rules_of c.args.laws.now) (rule_of c.args.rule.now) c.args.coded.now
    (λ law. false≢true (sym c.if-is_law.false ∙ c.is_law.ensures.1 law)) c.judge.result c.judge.ensures.met c.judge.ensures.part

pub returns-clause-stays : goal.returns-clause-stays
returns-clause-stays c = stays_by c.args.coded.now _ c.judge.ensures.facts c.judge.ensures.ordered c.judge.ensures.grown refl
