use Rattle.std.proofs.Common.{◌-◌, length, take}
use Rattle.esto_constraint.specs.Constraints.{rules_of}
use Rattle.esto_constraint.proofs.RankLemmas.{depth_of}
use Rattle.esto_semantics.specs.Expanded.{facts_of}
use Rattle.esto_chase_laws.specs.WorldBounds.{most_entries}
use Rattle.esto_chase_laws.specs.Derived.{AreDerived, AreNew}
use Rattle.esto_chase_laws.specs.WorldLaws.{AreGiven}
use Rattle.esto_chase_laws.specs.WorldSteps.{AreAnswered, AreJoined}
use Rattle.esto_chase_laws.specs.Worlds.{AreOfCount}
use Rattle.esto_condchase.proofs.chase.rounds.Given as goal

abbrev pub invariant-rounds : goal.invariant-rounds
invariant-rounds l = record {
  derived : AreDerived l.facts (rules_of l.rules) l.entries;
  new : AreNew l.entries;
  counted : AreOfCount l.atoms l.entries;
  given : AreGiven l.facts l.entries;
  before : AreAnswered (rules_of l.rules) (take l.since l.entries) l.entries;
  joined_before : AreJoined (take l.since l.entries) l.entries;
}

-- what is left of the bound of entries
abbrev pub decreases-rounds : goal.decreases-rounds
decreases-rounds l = most_entries (rules_of l.rules) (facts_of l.facts) (depth_of l.ranks) l.atoms - length l.entries
