use Rattle.esto_run.proofs.LawLemmas.{rewritings_answer}
use Rattle.esto_run.proofs.laws.rewritings_answer_queries.Goals as goal

pub returns : goal.returns
returns c = rewritings_answer
