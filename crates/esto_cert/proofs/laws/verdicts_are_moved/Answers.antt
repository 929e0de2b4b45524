use Rattle.esto_cert.proofs.MoveLemmas.{verdicts_moved}
use Rattle.esto_cert.proofs.laws.verdicts_are_moved.Goals as goal

pub returns : goal.returns
returns c = verdicts_moved
