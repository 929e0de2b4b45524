use Rattle.esto_steps.proofs.cost.chain_length.Given as goal

abbrev pub decreases-places : goal.decreases-places
decreases-places l = l.next
