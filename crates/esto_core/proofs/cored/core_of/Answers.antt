use Rattle.esto_core.proofs.CoredLemmas.{same_length-there}
use Rattle.esto_core.proofs.cored.core_of.Goals as goal

pub returns-clause-part : goal.returns-clause-part
returns-clause-part c = c.cored_plans_are_cores.ensures.part c.args.plan.now c.in_ok-cored.cored c.in_ok-cored.ensures

pub returns-clause-there : goal.returns-clause-there
returns-clause-there c = c.cored_plans_are_universal.ensures.there c.args.plan.now c.in_ok-cored.cored c.in_ok-cored.ensures

pub returns-clause-back : goal.returns-clause-back
returns-clause-back c = c.cored_plans_are_universal.ensures.back c.args.plan.now c.in_ok-cored.cored c.in_ok-cored.ensures

pub returns-clause-core : goal.returns-clause-core
returns-clause-core c = c.cored_plans_are_cores.ensures.core c.args.plan.now c.in_ok-cored.cored c.in_ok-cored.ensures

pub returns-clause-no_retract : goal.returns-clause-no_retract
returns-clause-no_retract c = c.cored_plans_are_cores.ensures.no_retract c.args.plan.now c.in_ok-cored.cored c.in_ok-cored.ensures

pub returns-clause-same_length : goal.returns-clause-same_length
returns-clause-same_length c =
    same_length-there c.args.plan.now c.in_ok-cored.cored
    (c.cored_plans_are_universal.ensures.there c.args.plan.now c.in_ok-cored.cored c.in_ok-cored.ensures)

pub returns-clause-over : goal.returns-clause-over
returns-clause-over c fragments = c.cored_plans_are_universal.ensures.over c.args.plan.now c.in_ok-cored.cored fragments c.in_ok-cored.ensures

pub returns-clause-universal : goal.returns-clause-universal
returns-clause-universal c rules views query =
    c.cored_plans_are_universal.ensures.universal rules views query c.args.plan.now c.in_ok-cored.cored c.in_ok-cored.ensures

pub returns-clause-unions : goal.returns-clause-unions
returns-clause-unions c rules views query =
    c.cored_plans_are_universal.ensures.unions rules views query c.args.plan.now c.in_ok-cored.cored c.in_ok-cored.ensures
