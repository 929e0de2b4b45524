use Rattle.esto_fill.proofs.trial.trial_of.Goals as goal

pub returns : goal.returns
returns c = record {
  laws = rw c.items.ensures at c.in_ok-laws.ensures;
  wants = rw c.items-2.ensures at c.in_ok-wanted.ensures;
}
