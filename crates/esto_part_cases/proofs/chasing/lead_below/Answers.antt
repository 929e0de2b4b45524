use Rattle.esto_constraint.specs.Constraints.{rule_of}
use Rattle.esto_constraint.specs.declared.rule.Constraint.{Constraint}
use Rattle.esto_term.proofs.ListLemmas.{each_more, each_seen}
use Rattle.esto_part_cases.proofs.LeadingLemmas.{leads-within}
use Rattle.esto_part_cases.specs.Leading.{LeadsBelow}
use Rattle.esto_part_cases.proofs.chasing.lead_below.Goals as goal

pub rules-preserved : goal.rules-preserved
rules-preserved c =
    each_more (λ (rule : Constraint). LeadsBelow c.args.relations (rule_of rule)) _ _ _ c.rules-test.true c.rule-item.is
    (c.leads_below.ensures c.if-not-leads_below.false) c.rules.invariant

pub returns : goal.returns
returns c = λ _. leads-within c.args.relations _
    (each_seen (λ (rule : Constraint). LeadsBelow c.args.relations (rule_of rule)) _ c.rules.rule-index c.rules-test.false c.rules.invariant)
