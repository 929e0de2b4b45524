use Rattle.esto_exec.specs.Hubs.{SayTheSame}
use Rattle.esto_exec.proofs.hubs.along.Given as goal

abbrev pub invariant-equations : goal.invariant-equations
invariant-equations l = SayTheSame l.equations l.own
