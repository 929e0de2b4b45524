use Rattle.std.proofs.Common.{ℕ, Contains, take}
use Rattle.esto_derive.specs.Chains.{Grows, IsPassed}
use Rattle.esto_derive.proofs.world.World.go_on.Given as goal

abbrev pub invariant-links : goal.invariant-links
invariant-links l = record {
  grows : Grows l.self.entries.now l.self.set.now l.fn.reached l.reached;
  passed : (link : ℕ) → Contains (take l.link-index l.self.links.now) link → IsPassed l.self.entries.now l.self.set.now l.reached l.at link;
}
