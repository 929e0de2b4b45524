use Rattle.esto_run.proofs.LawLemmas.{answers_over_files}
use Rattle.esto_run.proofs.laws.answers_are_over_files.Goals as goal

pub returns : goal.returns
returns c = answers_over_files
