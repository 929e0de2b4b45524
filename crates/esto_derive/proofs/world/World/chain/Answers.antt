use Rattle.esto_derive.proofs.ChainLemmas.{chain_found}
use Rattle.esto_derive.proofs.world.World.chain.Goals as goal

pub returns : goal.returns
returns c =
    chain_found c.args.self.now.entries.now c.args.self.now.set.now c.args.term.now c.args.other.now c.reach.new.reached c.items.result.now c.items.ensures
    c.in_ok-place.ensures.are c.in_ok-place.field-0 c.in-Some.place c.in-Some.is c.in_ok-place.ensures.found c.in_ok-chain.chain c.in_ok-chain.ensures
