use Rattle.std.proofs.Common.{ℕ, ◌+◌, ◌<◌}
use Rattle.esto_constraint.specs.Constraints.{rule_of}
use Rattle.esto_chase_laws.specs.WorldMatches.{taken}
use Rattle.esto_derive.specs.Placing.{Makes}
use Rattle.esto_derive.proofs.placing.place_in_head.Given as goal

abbrev pub invariant-places : goal.invariant-places
invariant-places l = (at : ℕ) → at < l.at → ¬ (Makes (at + 1) l.number (rule_of l.rule) (taken l.from l.to) l.claim)
