use Rattle.std.proofs.Common.{sym, subst}
use Rattle.std.proofs.lemmas.Result.{on_ok_weaker}
use Rattle.esto_condchase.specs.Evidence.{MatchesIn}
use Rattle.esto_chase_laws.specs.WorldSteps.{AreJoined}
use Rattle.esto_condchase.proofs.MatchingLemmas.{handed_over, matching_added}
use Rattle.esto_condchase.proofs.evidence.add_matching.Goals as goal

pub products_of_matches-requires-clause-joined : goal.products_of_matches-requires-clause-joined
products_of_matches-requires-clause-joined c = subst (λ it. AreJoined it it) (sym c.items.ensures) c.requires.joined

pub returns-clause-covers : goal.returns-clause-covers
returns-clause-covers c =
    let plan = c.args.plan.now in
    let query = c.args.query.now in
    let entries = c.args.entries.now in
    let own = c.in_ok-own.own.sets in
    on_ok_weaker c.add_others.result
    (matching_added (MatchesIn query plan entries) c.args.products.now.sets own c.add_others.new.products.sets
    (λ set. handed_over own set entries c.items.result.now query.head query.body c.items-2.result.now plan.head c.items-3.result.now
    c.items.ensures c.items-2.ensures c.items-3.ensures (c.in_ok-own.ensures.tell set)))
    c.add_others.ensures.covers
