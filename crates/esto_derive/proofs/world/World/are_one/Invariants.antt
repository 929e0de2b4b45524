use Rattle.esto_chase_laws.specs.Worlds.{InWorld, Linked}
use Rattle.esto_derive.proofs.FoundLemmas.{RelatedBelow}
use Rattle.esto_derive.proofs.world.World.are_one.Given as goal

abbrev pub invariant-places : goal.invariant-places
invariant-places l = RelatedBelow (Linked (InWorld l.self.entries.now l.self.set.now)) l.terms l.others l.place
