use Rattle.std.proofs.Common.{subst}
use Rattle.std.proofs.lemmas.Result.{on_ok_weaker}
use Rattle.esto_derive.specs.Searching.{IsChainIn}
use Rattle.esto_derive.proofs.ChainLemmas.{adds_none, adds_chain}
use Rattle.esto_derive.proofs.world.World.put_chain.Goals as goal

pub returns-then-equal : goal.returns-then-equal
returns-then-equal c =
    adds_none c.args.self.now.entries.now c.args.self.now.set.now c.args.term.now c.args.other.now c.args.links.now (c.equal.ensures.0 c.if-equal.true)

pub unreachable-requires : goal.unreachable-requires
unreachable-requires c =
    subst (IsChainIn c.args.self.now.entries.now c.args.self.now.set.now c.args.term.now c.args.other.now) c.in_default.is c.in_ok-chain.ensures c.requires.one

pub returns : goal.returns
returns c =
    on_ok_weaker c.append.result
    (λ appended. adds_chain c.args.self.now.entries.now c.args.self.now.set.now c.args.term.now c.args.other.now c.in-Some.chain c.args.links.now
    c.append.new.self
    (subst (IsChainIn c.args.self.now.entries.now c.args.self.now.set.now c.args.term.now c.args.other.now) c.in-Some.is c.in_ok-chain.ensures) appended)
    c.append.ensures.ok
