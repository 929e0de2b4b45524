use Rattle.esto_exec.proofs.reading.add_readings.Goals as goal

pub gets-init : goal.gets-init
gets-init g c = (c.requires.many, c.requires.instead)

pub gets-preserved : goal.gets-preserved
gets-preserved g c = (c.in_ok-add_reading.ensures.many, c.in_ok-add_reading.ensures.instead)

pub add_reading-requires-clause-instead : goal.add_reading-requires-clause-instead
add_reading-requires-clause-instead g c = c.gets.invariant.1

pub returns-clause-instead : goal.returns-clause-instead
returns-clause-instead g c = c.gets.invariant.1
