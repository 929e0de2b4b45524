use Rattle.esto_constraint.specs.Constraints.{rules_of}
use Rattle.esto_fill.specs.Lawful.{AreLaws}
use Rattle.esto_fill.proofs.lawful.laws_of.Given as goal

-- the rules so far are laws
abbrev pub invariant-datasets : goal.invariant-datasets
invariant-datasets l = AreLaws l.datasets (rules_of l.rules)
