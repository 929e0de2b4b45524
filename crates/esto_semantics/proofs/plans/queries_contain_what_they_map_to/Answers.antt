use Rattle.esto_semantics.proofs.AnswerLemmas.{contained-in_mapped}
use Rattle.esto_semantics.proofs.plans.queries_contain_what_they_map_to.Goals as goal

pub returns : goal.returns
returns c = contained-in_mapped
