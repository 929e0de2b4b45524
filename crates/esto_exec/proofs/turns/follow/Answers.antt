use Rattle.esto_exec.proofs.turns.follow.Goals as goal

pub returns : goal.returns
returns g c = (c.in_ok-kept.ensures, c.in_ok-join_slots.ensures)
