use Rattle.std.proofs.Common.{refl, arith}
use Rattle.esto_chase_laws.specs.Worlds.{InWorld, Linked}
use Rattle.esto_derive.proofs.FoundLemmas.{related_all}
use Rattle.esto_derive.proofs.world.World.are_one.Goals as goal

pub returns : goal.returns
returns c = (
  (λ yes. related_all (Linked (InWorld c.args.self.now.entries.now c.args.self.now.set.now)) c.args.terms.now c.args.others.now c.places.place
      (c.if-terms-others.false) (omega (arith, c.places-test.false)) c.places.invariant),
  (λ all. refl),
)
