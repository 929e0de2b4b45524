use Rattle.esto_steps.proofs.join.follows.Goals as goal

pub returns-then-each_met : goal.returns-then-each_met
returns-then-each_met c = (
  λ yes. record { inputs = c.each_met.ensures.0 c.if-each_met.true; filters = c.each_passed.ensures.0 yes },
  λ follows. c.each_passed.ensures.1 follows.filters,
)
