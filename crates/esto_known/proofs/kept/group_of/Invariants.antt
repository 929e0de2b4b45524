use Rattle.esto_known.proofs.kept.group_of.Given as goal

abbrev pub decreases-groups : goal.decreases-groups
decreases-groups l = l.next
