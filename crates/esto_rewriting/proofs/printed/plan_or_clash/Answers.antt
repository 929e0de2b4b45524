use Rattle.esto_rewriting.proofs.printed.plan_or_clash.Goals as goal

pub returns-in_ok-plan-in-Left : goal.returns-in_ok-plan-in-Left
returns-in_ok-plan-in-Left c = record {
  stated = c.in-Left.stated;
  of_run = rw c.in-Left.is at c.in_ok-stated.ensures.run;
  printed = c.in_ok-plan-in-Left.ensures;
}

pub returns-in-Right : goal.returns-in-Right
returns-in-Right c = rw c.in-Right.is at c.in_ok-stated.ensures.run
