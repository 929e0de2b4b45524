use Rattle.esto_exec.proofs.asked.take_up_to.Goals as goal

pub turns-init : goal.turns-init
turns-init g c = c.requires.under_way

pub turns-preserved : goal.turns-preserved
turns-preserved g c = c.in_ok-take_towards.ensures

pub returns : goal.returns
returns g c = c.turns.invariant
