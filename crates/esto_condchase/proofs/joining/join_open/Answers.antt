use Rattle.std.proofs.Common.{sym, subst}
use Rattle.esto_condchase.specs.Rounds.{AreOpen}
use Rattle.esto_condchase.proofs.joining.join_open.Goals as goal

pub join_given-requires-clause-open : goal.join_given-requires-clause-open
join_given-requires-clause-open c =
    subst (λ it. AreOpen c.args.entries.now c.args.sets.now.sets c.args.first.now.places it) (sym c.items-2.ensures)
    (subst (λ it. AreOpen c.args.entries.now c.args.sets.now.sets it c.in_ok-firsts.firsts) c.items.ensures c.in_ok-firsts.ensures)
