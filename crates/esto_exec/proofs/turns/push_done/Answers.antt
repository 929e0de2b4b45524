use Rattle.std.proofs.lemmas.Result.{on_ok_weaker}
use Rattle.esto_exec.proofs.turns.push_done.Goals as goal

pub returns-clause-done : goal.returns-clause-done
returns-clause-done c = on_ok_weaker c.push_slots.result (λ _. c.in_ok-push.ensures.ok) c.push_slots.ensures

pub returns-clause-places : goal.returns-clause-places
returns-clause-places c = on_ok_weaker c.push_slots.result (λ grown. (c.item.result, c.item.ensures, grown)) c.push_slots.ensures
