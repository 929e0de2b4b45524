use Rattle.std.proofs.Common.{refl, subst}
use Rattle.esto_chase_laws.specs.Worlds.{InWorld, Linked, here}
use Rattle.esto_derive.proofs.ChainLemmas.{told}
use Rattle.esto_derive.proofs.world.World.is_one.Goals as goal

pub returns-then-equal : goal.returns-then-equal
returns-then-equal c = (
  (λ yes. subst (Linked (InWorld c.args.self.now.entries.now c.args.self.now.set.now) c.args.term.now) (c.equal.ensures.0 c.if-equal.true) here),
  (λ linked. refl),
)

pub returns : goal.returns
returns c =
    told c.args.self.now.entries.now c.args.self.now.set.now c.args.term.now c.args.other.now c.reach.new.reached c.in_ok-found.ensures.are c.in_ok-found.found
    c.in_ok-found.ensures.found c.is_some.result c.is_some.ensures
