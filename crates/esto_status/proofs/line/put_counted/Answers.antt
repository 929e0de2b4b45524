use Rattle.esto_status.proofs.line.put_counted.Goals as goal

pub returns-in-NoSuchNumber : goal.returns-in-NoSuchNumber
returns-in-NoSuchNumber c = rw c.in-NoSuchNumber.is c.put_counts.ensures

pub returns-in-NodeInRow : goal.returns-in-NodeInRow
returns-in-NodeInRow c = rw c.in-NodeInRow.is c.put_numbered.ensures

pub returns-in-Rejected : goal.returns-in-Rejected
returns-in-Rejected c = rw c.in-Rejected.is c.put_numbered-in-Rejected.ensures

pub returns-in-HeadLengths : goal.returns-in-HeadLengths
returns-in-HeadLengths c = rw c.in-HeadLengths.is c.put_counts-in-HeadLengths.ensures
