use Rattle.std.proofs.Common.{sym, subst}
use Rattle.esto_exec.specs.Hubs.{SayTheSame}
use Rattle.esto_exec.proofs.HubLemmas.{same_self, same_through}
use Rattle.esto_exec.proofs.hubs.along.Goals as goal

pub equations-init : goal.equations-init
equations-init c = subst (SayTheSame c.args.equations.now) (sym c.in_ok-own.ensures) (same_self c.args.equations.now)

pub equations-preserved : goal.equations-preserved
equations-preserved c = same_through c.args.equations.now c.equations.own c.turn_at.new.equations c.equations.invariant c.in_ok-turn_at.ensures
