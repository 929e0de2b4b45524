use Rattle.esto_chase_laws.proofs.ContainLemmas.{matches_show, containment_shows}
use Rattle.esto_chase_laws.proofs.worlds.matches_decide_containment.Goals as goal

pub returns-clause-shown : goal.returns-clause-shown
returns-clause-shown c = matches_show

pub returns-clause-found : goal.returns-clause-found
returns-clause-found c =
    containment_shows c.universal_instances_decide_containment.ensures.query c.what_follows_the_facts_follows_the_query.ensures
