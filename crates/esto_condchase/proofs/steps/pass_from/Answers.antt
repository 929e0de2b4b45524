use Rattle.std.proofs.Common.{inr, refl, sym, subst, ◌∙◌}
use Rattle.std.proofs.lemmas.Result.{on_ok_weaker}
use Rattle.esto_term.specs.Sets.{Within}
use Rattle.esto_term.proofs.ListLemmas.{Contains-at}
use Rattle.esto_condchase.proofs.WayLemmas.{within_united}
use Rattle.esto_condchase.proofs.StepLemmas.{grown_same, union_count}
use Rattle.esto_condchase.proofs.steps.pass_from.Goals as goal

pub returns-then-is_old-clause-grown : goal.returns-then-is_old-clause-grown
returns-then-is_old-clause-grown c = grown_same _ c.args.kept.now c.args.kept.now refl

pub returns-then-is_old-clause-there : goal.returns-then-is_old-clause-there
returns-then-is_old-clause-there c set within its_within passes = inr (c.is_old.ensures c.if-is_old.true set passes)

pub union_of-requires : goal.union_of-requires
union_of-requires c = c.requires.count ∙ sym (c.requires.counts c.args.entry.now (Contains-at c.args.step.now.known.now c.args.place c.args.entry.now
    c.requires.at))

pub pass_within-requires-clause-product : goal.pass_within-requires-clause-product
pass_within-requires-clause-product c = (c.args.entry.now, c.requires.at, c.in_ok-product.ensures)

pub pass_within-requires-clause-count : goal.pass_within-requires-clause-count
pass_within-requires-clause-count c = union_count c.args.before.now.product c.args.entry.now.product c.in_ok-product.product c.args.count c.requires.count
    (c.requires.counts c.args.entry.now (Contains-at c.args.step.now.known.now c.args.place c.args.entry.now c.requires.at)) c.in_ok-product.ensures

pub returns-clause-grown : goal.returns-clause-grown
returns-clause-grown c = c.pass_within.ensures.grown

pub returns-clause-there : goal.returns-clause-there
returns-clause-there c = on_ok_weaker c.pass_within.result (λ there set within its_within passes. there set
    (subst (λ it. Within it set) (sym c.in_ok-product.ensures) (within_united c.args.before.now.product c.args.entry.now.product set within its_within)) passes)
    c.pass_within.ensures.there

pub returns-clause-counted : goal.returns-clause-counted
returns-clause-counted c = c.pass_within.ensures.counted
