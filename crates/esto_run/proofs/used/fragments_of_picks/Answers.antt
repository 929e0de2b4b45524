use Rattle.std.proofs.Common.{[], map, sym, subst}
use Rattle.std.proofs.lemmas.List.{take_all}
use Rattle.std.specs.List.{flat_map}
use Rattle.esto_run.specs.Picks.{candidate_of}
use Rattle.esto_run.specs.Used.{AreFirsts, AreUsedByAll, fragments_of}
use Rattle.esto_run.proofs.UsedLemmas.{firsts_distinct, no_firsts, picks_step}
use Rattle.esto_run.proofs.used.fragments_of_picks.Goals as goal

pub picks-init : goal.picks-init
picks-init c = subst (AreFirsts []) (sym c.new-fragments.ensures) no_firsts

pub picks-preserved : goal.picks-preserved
picks-preserved c = picks_step c.args.picks.now c.picks.pick-index c.pick-item.result c.picks.fragments c.add_uses.new.fragments c.picks-test.true
    c.pick-item.is c.in_ok-add_uses.ensures.firsts c.picks.invariant

pub returns-clause-used : goal.returns-clause-used
returns-clause-used c = subst (λ them. AreUsedByAll (map candidate_of them) c.picks.fragments)
    (take_all c.picks.pick-index c.args.picks.now c.picks-test.false) c.picks.invariant

pub returns-clause-distinct : goal.returns-clause-distinct
returns-clause-distinct c = firsts_distinct (flat_map (λ query. fragments_of query.body) (map candidate_of c.args.picks.now)) c.picks.fragments
    (returns-clause-used c)
