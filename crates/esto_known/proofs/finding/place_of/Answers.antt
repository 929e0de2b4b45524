use Rattle.std.proofs.Common.{subst}
use Rattle.esto_chase_laws.specs.Claims.{AreSameClaim}
use Rattle.esto_chase_laws.proofs.ClaimLemmas.{same_stated, same_says}
use Rattle.esto_known.proofs.GroupLemmas.{match_weaker, place_same, place_linked}
use Rattle.esto_known.proofs.finding.place_of.Goals as goal

pub returns-in-Fact : goal.returns-in-Fact
returns-in-Fact c = match_weaker c.place_stating.result _ _ _ _
    (λ none group inside same. none group inside
    (same_stated c.in-Fact.fact group.claim (subst (λ it. AreSameClaim it group.claim) c.in-Fact.is same)))
    (λ place. place_same c.args.groups.now c.args.claim.now c.in-Fact.fact place c.in-Fact.is) c.place_stating.ensures

pub returns-in-Same : goal.returns-in-Same
returns-in-Same c = match_weaker c.place_linking.result _ _ _ _
    (λ none group inside same. none group inside
    (same_says c.in-Same.left c.in-Same.right group.claim (subst (λ it. AreSameClaim it group.claim) c.in-Same.is same)))
    (λ place. place_linked c.args.groups.now c.args.claim.now c.in-Same.left c.in-Same.right place c.in-Same.is) c.place_linking.ensures
