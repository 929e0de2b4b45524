use Rattle.std.proofs.Common.{arith}
use Rattle.esto_access.proofs.NeedLemmas.{next_none, next_some}
use Rattle.esto_access.proofs.needs.next_products.Goals as goal

pub returns-then-atom-len-clause-covers : goal.returns-then-atom-len-clause-covers
returns-then-atom-len-clause-covers c =
    next_none c.args.plan.now.atoms c.args.fragments.now c.args.supplies.now c.args.number c.item-atom.result.now c.item-atom.ensures c.new-none.result.sets
    c.new-none.ensures.empty
    (omega (arith, c.if-atom-len.true, c.len.ensures))

pub returns-clause-covers : goal.returns-clause-covers
returns-clause-covers c =
    next_some c.args.plan.now.atoms c.args.fragments.now c.args.supplies.now c.args.number c.item-atom.result.now c.item-atom.ensures c.item.result.now
    c.item.ensures c.in_ok-found.found.sets c.in_ok-found.ensures.covers
