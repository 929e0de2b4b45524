use Rattle.std.proofs.Common.{arith}
use Rattle.esto_constraint.specs.Constraints.{rules_of}
use Rattle.esto_data.proofs.CodedAuditLemmas.{rules_end, rules_goes, rules_start, rules_stop}
use Rattle.esto_data.proofs.CodedRowLemmas.{stays_on}
use Rattle.esto_data.proofs.coded_audit.first_unpassed.Goals as goal

pub rules-init : goal.rules-init
rules-init c = rules_start c.args.coded.now (rules_of c.args.laws.now) c.args.rules.now

pub returns-in-Broken-clause-found : goal.returns-in-Broken-clause-found
returns-in-Broken-clause-found c =
    rules_stop c.args.coded.now c.rules.coded c.judge_tried.new.coded (rules_of c.args.laws.now) c.args.rules.now c.rules.number c.index-rules-number.result
    c.rules-test.true c.index-rules-number.is c.rules.invariant c.judge_tried.ensures.stays c.in_ok-judge_tried.field-0 c.in_ok-judge_tried.ensures.judged
    c.in-Broken.part c.in-Broken.is

pub rules-preserved : goal.rules-preserved
rules-preserved c =
    rules_goes c.args.coded.now c.rules.coded c.judge_tried.new.coded (rules_of c.args.laws.now) c.args.rules.now c.rules.number c.index-rules-number.result
    c.rules-test.true c.index-rules-number.is c.rules.invariant c.judge_tried.ensures.stays c.in_ok-judge_tried.field-0 c.in_ok-judge_tried.ensures.judged
    c.in-Met.is

pub returns-clause-found : goal.returns-clause-found
returns-clause-found c loaded its =
    rules_end c.args.coded.now c.rules.coded (rules_of c.args.laws.now) c.args.rules.now c.rules.number (omega (arith, c.rules-test.false))
    c.rules.invariant loaded its

pub returns-in_err-judge_tried-clause-stays : goal.returns-in_err-judge_tried-clause-stays
returns-in_err-judge_tried-clause-stays c = stays_on _ _ _ c.rules.invariant.stays c.judge_tried.ensures.stays

pub returns-in-Broken-clause-stays : goal.returns-in-Broken-clause-stays
returns-in-Broken-clause-stays c = stays_on _ _ _ c.rules.invariant.stays c.judge_tried.ensures.stays

pub returns-clause-stays : goal.returns-clause-stays
returns-clause-stays c = c.rules.invariant.stays
