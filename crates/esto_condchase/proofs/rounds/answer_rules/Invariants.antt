use Rattle.std.proofs.Common.{◌++◌, [], ◌<◌, ℕ, ◌≡◌, Some, slice_get}
use Rattle.esto_semantics.specs.Rules.{Rule}
use Rattle.esto_constraint.specs.Constraints.{rules_of}
use Rattle.esto_condchase.specs.Rounds.{IsRuleAnswered}
use Rattle.esto_condchase.proofs.rounds.answer_rules.Given as goal
use Rattle.esto_condchase.proofs.RoundLemmas.{AreAnsweredSoFar}

abbrev pub invariant-rules : goal.invariant-rules
invariant-rules l = AreAnsweredSoFar (rules_of l.rules) l.count l.entries [] l.more
    ((number : ℕ) (rule : Rule) → number < l.number → slice_get (rules_of l.rules) number ≡ Some rule
    → IsRuleAnswered l.entries (l.entries ++ l.more) number rule)
