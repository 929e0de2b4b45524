use Rattle.std.proofs.lemmas.Result.{IfOk-weaker}
use Rattle.esto_condchase.proofs.KnownLemmas.{first_is, first_counted}
use Rattle.esto_condchase.proofs.products.first.Goals as goal

pub returns-clause-counted : goal.returns-clause-counted
returns-clause-counted c = IfOk-weaker c.only.result _ _ (λ ones is. first_counted c.args.count ones _ is c.in_ok-by.ensures.count) c.only.ensures

pub returns-clause-first : goal.returns-clause-first
returns-clause-first c = IfOk-weaker c.only.result _ _ (λ ones is.
    first_is c.args.groups.now c.args.head.now c.args.targets.now c.in_ok-by.by c.in_ok-to.to ones c.in_ok-to.ensures c.in_ok-by.ensures.covers is)
    c.only.ensures
