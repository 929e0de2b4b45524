use Rattle.std.proofs.Common.{sym, subst}
use Rattle.esto_condchase.specs.Products.{AreReachedOf}
use Rattle.esto_condchase.proofs.ReachLemmas.{next_from}
use Rattle.esto_condchase.proofs.products.go_on.Goals as goal

pub next-requires-clause-ones : goal.next-requires-clause-ones
next-requires-clause-ones c = subst (AreReachedOf c.args.count) (sym c.items-5.ensures) c.requires.ones

pub returns-clause-next : goal.returns-clause-next
returns-clause-next c =
    next_from c.args.groups.now c.args.atom.now c.args.rest.now c.args.from.now c.args.ones.now c.items.result.now c.put_terms.new.terms c.items-2.result.now
    c.in_ok-these.these c.items-4.result.now c.items-3.result.now c.items-5.result.now c.in_ok-ones.field-0
    c.items.ensures c.in_ok-put_terms.ensures c.items-2.ensures c.in_ok-these.ensures c.items-3.ensures
    c.items-4.ensures c.items-5.ensures c.in_ok-ones.ensures.reach
