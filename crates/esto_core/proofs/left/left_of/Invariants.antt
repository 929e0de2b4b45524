use Rattle.std.proofs.Common.{◌≤◌, length}
use Rattle.esto_semantics.specs.Maps.{AreFlat}
use Rattle.esto_core.proofs.LeftLemmas.{IsGone}
use Rattle.esto_core.proofs.left.left_of.Given as goal

abbrev pub invariant-places : goal.invariant-places
invariant-places l = record {
  within : l.place ≤ length l.atoms;
  flat : AreFlat l.left;
  gone : IsGone l.head l.atoms l.place l.left;
}
