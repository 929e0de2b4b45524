use Rattle.esto_semantics.proofs.ContainmentLemmas.{IsAnswerOf-grows}
use Rattle.esto_semantics.proofs.containment.answers_grow_with_the_database.Goals as goal

pub returns : goal.returns
returns c = IsAnswerOf-grows
