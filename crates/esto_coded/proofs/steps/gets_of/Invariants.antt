use Rattle.esto_coded.proofs.WholeLemmas.{AreGetsBelow}
use Rattle.esto_coded.proofs.steps.gets_of.Given as goal

abbrev pub invariant-atoms : goal.invariant-atoms
invariant-atoms l = AreGetsBelow l.initial.codes l.codes l.body l.atom-index l.bound l.gets
