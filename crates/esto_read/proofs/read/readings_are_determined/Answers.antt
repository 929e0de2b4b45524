use Rattle.esto_read.proofs.ExactLemmas.{one_reading, no_fault, one_fault}
use Rattle.esto_read.proofs.read.readings_are_determined.Goals as goal

pub returns-clause-reading : goal.returns-clause-reading
returns-clause-reading c form words schema bytes query other h = one_reading c.trees_are_determined.ensures.tree form words h.distinct schema bytes query other

pub returns-clause-apart : goal.returns-clause-apart
returns-clause-apart c form words schema bytes query fault h = no_fault c.trees_are_determined.ensures.tree c.trees_are_determined.ensures.apart form words
    h.distinct schema bytes query fault

pub returns-clause-fault : goal.returns-clause-fault
returns-clause-fault c form words schema bytes fault other h =
    one_fault c.trees_are_determined.ensures.tree c.trees_are_determined.ensures.apart c.trees_are_determined.ensures.fault form words h.distinct schema bytes
    fault other
