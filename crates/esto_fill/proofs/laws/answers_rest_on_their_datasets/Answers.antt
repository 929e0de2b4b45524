use Rattle.esto_fill.proofs.MovedLemmas.{answers_rest}
use Rattle.esto_fill.proofs.laws.answers_rest_on_their_datasets.Goals as goal

pub returns : goal.returns
returns c = answers_rest
