-- The meaning of rules.
use Rattle.std.specs.Prelude.{List, map}
use Rattle.esto_semantics.specs.Rules.{Rule, tuple, equality, denial}
use Rattle.esto_constraint.specs.declared.rule.Constraint.{Constraint}
use Rattle.esto_constraint.specs.declared.rule.Constraint.TheVariants.{Tuple, Equal, Never}

-- The rule without its names.
abbrev pub rule_of : Constraint → Rule
rule_of (Tuple rule) = tuple rule.body rule.head
rule_of (Equal rule) = equality rule.body rule.left rule.right
rule_of (Never rule) = denial rule.body

-- The rules, in order.
abbrev pub rules_of : List Constraint → List Rule
rules_of rules = map rule_of rules
