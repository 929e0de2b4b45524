use Rattle.std.proofs.Common.{◌∙◌}
use Rattle.esto_exec.proofs.TurnLemmas.{slots_step}
use Rattle.esto_exec.proofs.turns.push_slots.Goals as goal

pub columns-preserved : goal.columns-preserved
columns-preserved c = slots_step c.columns.places c.push.new.self c.args.number c.columns.column c.args.arity c.columns-test.true c.in_ok-push.ensures.ok
    ∙ c.columns.invariant
