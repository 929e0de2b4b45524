use Rattle.esto_fill.proofs.WantedLemmas.{answers_rest_on_wanted_facts}
use Rattle.esto_fill.proofs.laws.answers_rest_on_wanted_facts.Goals as goal

pub returns : goal.returns
returns c = answers_rest_on_wanted_facts
