use Rattle.esto_read.proofs.LayoutLemmas.{one_layout, no_layout_fault, one_layout_fault}
use Rattle.esto_read.proofs.layout.layout_readings_are_determined.Goals as goal

pub returns-clause-reading : goal.returns-clause-reading
returns-clause-reading c columns bytes pattern other h = one_layout c.trees_are_determined.ensures.layout_tree columns bytes pattern other h

pub returns-clause-apart : goal.returns-clause-apart
returns-clause-apart c columns bytes pattern fault h =
    let trees = c.trees_are_determined.ensures in no_layout_fault trees.layout_tree trees.layout_apart columns bytes pattern fault

pub returns-clause-fault : goal.returns-clause-fault
returns-clause-fault c columns bytes fault other h =
    let trees = c.trees_are_determined.ensures in one_layout_fault trees.layout_tree trees.layout_apart trees.layout_fault columns bytes fault other
