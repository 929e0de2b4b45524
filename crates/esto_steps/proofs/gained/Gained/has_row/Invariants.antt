use Rattle.esto_steps.proofs.gained.Gained.has_row.Given as goal

abbrev pub decreases-places : goal.decreases-places
decreases-places l = l.next
