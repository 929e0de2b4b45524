use Rattle.std.proofs.Common.{MatchOption, subst}
use Rattle.esto_constraint.specs.Constraints.{rules_of}
use Rattle.esto_instance.specs.Instances.{state_of}
use Rattle.esto_chase.specs.Chased.{IsFinishedRun, RunClashes}
use Rattle.esto_chase.proofs.chasing.run.Goals as goal

pub returns-in-None : goal.returns-in-None
returns-in-None c =
    subst (λ outcome. MatchOption outcome (IsFinishedRun (rules_of c.args.rules.now) (state_of c.args.start) c.go_on.new.instance)
    (RunClashes (rules_of c.args.rules.now) (state_of c.args.start))) c.in-None.is c.in_ok-go_on.ensures

pub returns-in-Some : goal.returns-in-Some
returns-in-Some c =
    subst (λ outcome. MatchOption outcome (IsFinishedRun (rules_of c.args.rules.now) (state_of c.args.start) c.go_on.new.instance)
    (RunClashes (rules_of c.args.rules.now) (state_of c.args.start))) c.in-Some.is c.in_ok-go_on.ensures
