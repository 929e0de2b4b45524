use Rattle.esto_chase_laws.specs.Derived.{IsNamed}
use Rattle.esto_chase_laws.specs.Worlds.{Linked}
use Rattle.esto_derive.specs.Searching.{AreLinks}
use Rattle.esto_derive.proofs.FoundLemmas.{RelatedBelow}
use Rattle.esto_derive.proofs.world.World.links_between.Given as goal

abbrev pub invariant-places : goal.invariant-places
invariant-places l = record {
  are : AreLinks l.self.entries.now l.self.set.now l.links;
  related : RelatedBelow (Linked (IsNamed l.self.entries.now l.links)) l.terms l.others l.place;
}
