use Rattle.std.proofs.Common.{take, ◌++◌}
use Rattle.esto_condchase.specs.Ways.{IsTold}
use Rattle.esto_condchase.proofs.StepLemmas.{LongerSoFar}
use Rattle.esto_condchase.proofs.passing.all_longer.Given as goal

abbrev pub invariant-given : goal.invariant-given
invariant-given l = LongerSoFar l.step.known.now l.own l.goal l.floor (IsTold l.step.known.now l.step.sides l.step.places.now l.kept
    (l.step.to.now ++ l.step.owns.now)) (take l.before-index l.given) l.next
