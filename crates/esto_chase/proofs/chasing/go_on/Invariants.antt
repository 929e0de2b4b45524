use Rattle.esto_constraint.specs.Constraints.{rules_of}
use Rattle.esto_instance.specs.Instances.{state_of}
use Rattle.esto_chase.proofs.ChaseLemmas.{HasRun, left_of}
use Rattle.esto_constraint.proofs.RankLemmas.{depth_of}
use Rattle.esto_chase.proofs.chasing.go_on.Given as goal

abbrev pub invariant-steps : goal.invariant-steps
invariant-steps l = HasRun (rules_of l.rules) (state_of l.fn.instance) l.instance

abbrev pub decreases-steps : goal.decreases-steps
decreases-steps l = left_of (rules_of l.rules) (state_of l.fn.instance) (depth_of l.ranks) l.instance
