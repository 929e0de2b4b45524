use Rattle.esto_top.proofs.ExplainLemmas.{explained_accepted}
use Rattle.esto_top.proofs.laws.explained_sets_are_accepted.Goals as goal

pub returns : goal.returns
returns c = explained_accepted c.certificate_outcomes_hold.ensures.explain c.certificate_outcomes_hold.ensures.verify
