use Rattle.esto_run.proofs.UsedLemmas.{used_once}
use Rattle.esto_run.proofs.laws.used_fragments_are_one.Goals as goal

pub returns : goal.returns
returns c = used_once
