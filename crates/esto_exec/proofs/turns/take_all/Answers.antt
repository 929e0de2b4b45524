use Rattle.std.proofs.Common.{arith}
use Rattle.esto_exec.proofs.turns.take_all.Goals as goal

pub turns-init : goal.turns-init
turns-init g c = c.requires.under_way

pub turns-preserved : goal.turns-preserved
turns-preserved g c = c.in_ok-take_best.ensures

pub gets-init : goal.gets-init
gets-init g c = (c.turns.invariant, λ other below. absurd (omega (arith, below)))

pub gets-preserved : goal.gets-preserved
gets-preserved g c = (c.in_ok-take_next.ensures.under_way, c.in_ok-take_next.ensures.before)

pub returns-clause-all : goal.returns-clause-all
returns-clause-all g c = λ number below.
    c.gets.invariant.1 number (let past = c.gets-test.false in let count = c.len-number-end.ensures in omega (arith, below, past, count))

pub returns-clause-under_way : goal.returns-clause-under_way
returns-clause-under_way g c = c.gets.invariant.0
