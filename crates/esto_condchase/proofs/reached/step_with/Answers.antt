use Rattle.std.proofs.Common.{sym, ◌∙◌}
use Rattle.std.proofs.lemmas.Result.{on_ok_weaker}
use Rattle.esto_condchase.proofs.KnownLemmas.{with_fact}
use Rattle.esto_condchase.proofs.reached.step_with.Goals as goal

pub returns-else-len-clause-reach : goal.returns-else-len-clause-reach
returns-else-len-clause-reach c =
    on_ok_weaker c.step_by.result (λ reach. with_fact c.args.groups.now c.args.from.now c.args.these.now c.args.atom.now c.args.one.now c.args.group.now
    c.args.later.now.items _
    c.in-Fact.fact c.in-Fact.is (c.if-fact-atom.false, sym c.len.ensures ∙ c.if-len.false ∙ c.len-else-fact-atom.ensures) reach) c.step_by.ensures.reach
