use Rattle.esto_constraint.specs.Constraints.{rules_of}
use Rattle.esto_term.proofs.ListLemmas.{Contains-nil}
use Rattle.esto_fill.proofs.TrialLemmas.{tried_all, tried_next}
use Rattle.esto_fill.proofs.trial.add_rules.Goals as goal

pub rules-init : goal.rules-init
rules-init c = ((λ body inside. inside), λ rule inside. absurd (Contains-nil rule inside))

pub rules-preserved : goal.rules-preserved
rules-preserved c =
    tried_next c.args.rules.now (rules_of c.args.laws.now) c.rules.rule-index c.rule-item.result c.args.bodies.now c.rules.bodies c.add_tried.new.bodies
    c.rules-test.true c.rule-item.is c.rules.invariant c.in_ok-add_tried.ensures

pub returns : goal.returns
returns c = tried_all c.args.rules.now (rules_of c.args.laws.now) c.rules.rule-index c.args.bodies.now c.rules.bodies c.rules-test.false c.rules.invariant
