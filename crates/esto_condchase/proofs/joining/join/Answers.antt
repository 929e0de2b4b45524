use Rattle.std.proofs.Common.{◌++◌, take, sym, subst}
use Rattle.std.proofs.lemmas.Result.{on_ok_weaker}
use Rattle.esto_chase_laws.specs.WorldSteps.{AreJoined}
use Rattle.esto_condchase.proofs.joining.join.Goals as goal

pub join_groups-requires-clause-before : goal.join_groups-requires-clause-before
join_groups-requires-clause-before c = subst (λ it. AreJoined (take c.args.since it) it) (sym c.items.ensures) c.requires.before

pub returns-clause-joined : goal.returns-clause-joined
returns-clause-joined c = on_ok_weaker c.join_groups.result
    (λ joined. subst (λ it. AreJoined it (it ++ c.join_groups.new.more)) c.items.ensures joined) c.join_groups.ensures.joined
