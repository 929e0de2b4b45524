use Rattle.std.proofs.Common.{inl, inr, ap, length, refl, sym, subst, ◌∙◌}
use Rattle.std.proofs.lemmas.Result.{on_ok_weaker}
use Rattle.esto_term.specs.Sets.{Within}
use Rattle.esto_term.proofs.SetLemmas.{length-united}
use Rattle.esto_term.proofs.ListLemmas.{Contains-at}
use Rattle.esto_chase_laws.specs.Worlds.{AreOfCount}
use Rattle.esto_condchase.specs.Ways.{IsLonger}
use Rattle.esto_condchase.proofs.WayLemmas.{within_united}
use Rattle.esto_condchase.proofs.StepLemmas.{grown_same, told_wider, added_grown, added_goes, counted_union}
use Rattle.esto_condchase.proofs.passing.add_longer.Goals as goal

pub union_of-requires : goal.union_of-requires
union_of-requires c = sym (c.requires.counts c.args.entry.now (Contains-at c.args.step.now.known.now c.args.place c.args.entry.now c.requires.at))

pub is_settled-requires-clause-counts : goal.is_settled-requires-clause-counts
is_settled-requires-clause-counts c = subst (λ n. AreOfCount n c.args.step.now.known.now)
    (sym (ap length c.in_ok-product.ensures ∙ length-united c.args.before.now.product c.args.entry.now.product
    (sym (c.requires.counts c.args.entry.now (Contains-at c.args.step.now.known.now c.args.place c.args.entry.now c.requires.at))))) c.requires.counts

pub is_settled-requires-clause-counted : goal.is_settled-requires-clause-counted
is_settled-requires-clause-counted c = counted_union c.args.kept.now c.args.before.now.product c.args.entry.now.product c.in_ok-product.product
    (sym (c.requires.counts c.args.entry.now (Contains-at c.args.step.now.known.now c.args.place c.args.entry.now c.requires.at)))
    c.in_ok-product.ensures c.requires.counted

pub returns-then-is_settled-clause-grown : goal.returns-then-is_settled-clause-grown
returns-then-is_settled-clause-grown c own goal says = grown_same (IsLonger c.args.step.now.known.now own goal c.args.before.now) c.args.next.now
    c.args.next.now refl

pub returns-then-is_settled-clause-goes : goal.returns-then-is_settled-clause-goes
returns-then-is_settled-clause-goes c set within its_within = inr (told_wider _ _ _ _ _ c.in_ok-product.product set (c.is_settled.ensures c.if-is_settled.true)
    (subst (λ it. Within it set) (sym c.in_ok-product.ensures)
    (within_united c.args.before.now.product c.args.entry.now.product set within its_within)))

pub returns-clause-grown : goal.returns-clause-grown
returns-clause-grown c = on_ok_weaker c.push.result
    (λ pushed own goal says. added_grown c.args.step.now.known.now c.args.before.now c.args.place c.args.entry.now c.requires.at
    (sym (c.requires.counts c.args.entry.now (Contains-at c.args.step.now.known.now c.args.place c.args.entry.now c.requires.at))) own goal
    says c.in_ok-product.product _ c.args.next.now _ c.in_ok-product.ensures c.in_ok-longer.ensures pushed) c.push.ensures.ok

pub returns-clause-goes : goal.returns-clause-goes
returns-clause-goes c = on_ok_weaker c.push.result
    (λ pushed set within its_within. inl (added_goes c.args.before.now c.in_ok-product.product c.args.entry.now.product c.args.place _ c.args.next.now _
    c.in_ok-product.ensures c.in_ok-longer.ensures pushed set within its_within)) c.push.ensures.ok
