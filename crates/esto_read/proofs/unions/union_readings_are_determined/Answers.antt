use Rattle.esto_read.proofs.UnionLemmas.{union_one, union_clean, union_fault_one}
use Rattle.esto_read.proofs.unions.union_readings_are_determined.Goals as goal

pub returns-clause-reading : goal.returns-clause-reading
returns-clause-reading c words schema bytes queries others h = union_one words h.distinct schema bytes c.unions_are_determined.ensures.trees queries others

pub returns-clause-apart : goal.returns-clause-apart
returns-clause-apart c words schema bytes queries fault h =
    union_clean words h.distinct schema bytes c.unions_are_determined.ensures.trees c.unions_are_determined.ensures.apart queries fault

pub returns-clause-fault : goal.returns-clause-fault
returns-clause-fault c words schema bytes fault other h =
    union_fault_one words h.distinct schema bytes c.unions_are_determined.ensures.trees c.unions_are_determined.ensures.apart
    c.unions_are_determined.ensures.fault fault other
