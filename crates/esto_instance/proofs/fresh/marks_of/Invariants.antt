use Rattle.esto_instance.proofs.FreshLemmas.{AreFreshBelow}
use Rattle.esto_instance.proofs.fresh.marks_of.Given as goal

abbrev pub invariant-more : goal.invariant-more
invariant-more l = AreFreshBelow l.facts l.more l.place l.marks
