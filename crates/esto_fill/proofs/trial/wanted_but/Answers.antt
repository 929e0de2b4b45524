use Rattle.esto_constraint.specs.Constraints.{rules_of}
use Rattle.esto_fill.proofs.TrialLemmas.{trial_wants}
use Rattle.esto_fill.proofs.trial.wanted_but.Goals as goal

pub returns : goal.returns
returns c =
    trial_wants c.args.catalogue.now (rules_of c.args.laws.now) c.in_ok-bodies.bodies c.add_rules.new.bodies (rw c.items.ensures at c.in_ok-bodies.ensures)
    (rw c.items-2.ensures at c.in_ok-add_rules.ensures)
