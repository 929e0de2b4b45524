use Rattle.std.proofs.lemmas.Result.{IfOk-weaker}
use Rattle.esto_condchase.proofs.KnownLemmas.{groups_of}
use Rattle.esto_condchase.proofs.products.products_of_matches.Goals as goal

pub products_among-products-requires-clause-groups : goal.products_among-products-requires-clause-groups
products_among-products-requires-clause-groups c = groups_of c.args.entries.now c.args.count c.in_ok-groups.groups c.requires.counts c.in_ok-groups.ensures

pub returns-clause-tell : goal.returns-clause-tell
returns-clause-tell c =
    IfOk-weaker c.products_among-products.result _ _ (λ found tell. tell c.args.entries.now c.in_ok-groups.ensures c.requires.joined)
    c.products_among-products.ensures.tell
