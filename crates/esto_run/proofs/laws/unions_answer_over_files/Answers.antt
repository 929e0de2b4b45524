use Rattle.esto_run.proofs.LawLemmas.{unions_answer}
use Rattle.esto_run.proofs.laws.unions_answer_over_files.Goals as goal

pub returns : goal.returns
returns c = unions_answer
