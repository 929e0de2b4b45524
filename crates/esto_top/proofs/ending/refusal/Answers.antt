use Rattle.esto_top.proofs.EndingLemmas.{refusal_said}
use Rattle.esto_top.proofs.ending.refusal.Goals as goal

pub returns : goal.returns
returns c = rw c.zip.ensures (refusal_said c.args.status _ c.refusal_line-line.ensures)
