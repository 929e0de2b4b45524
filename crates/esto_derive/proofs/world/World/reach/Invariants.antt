use Rattle.std.proofs.Common.{◌≡◌, ◌≢◌, ◌<◌, ◌-◌, ℕ, suc, Contains, Some, length, slice_get}
use Rattle.esto_derive.specs.Chains.{AreReached, IsPassed}
use Rattle.esto_derive.specs.declared.chains.Reached.{Reached}
use Rattle.esto_derive.proofs.ChainLemmas.{sides}
use Rattle.esto_derive.proofs.world.World.reach.Given as goal

abbrev pub invariant-turns : goal.invariant-turns
invariant-turns l = record {
  are : AreReached l.self.entries.now l.self.set.now l.term l.reached;
  passed : (place link : ℕ) → place < l.at → Contains l.self.links.now link → IsPassed l.self.entries.now l.self.set.now l.reached place link;
  apart : (place : ℕ) (it : Reached) → place < l.at → slice_get l.reached place ≡ Some it → it.term.now ≢ l.other;
}

abbrev pub decreases-turns : goal.decreases-turns
decreases-turns l = suc (length (sides l.self.entries.now)) - l.at
