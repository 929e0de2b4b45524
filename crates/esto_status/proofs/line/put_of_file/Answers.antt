use Rattle.esto_status.proofs.line.put_of_file.Goals as goal

pub returns-in-ReadFault : goal.returns-in-ReadFault
returns-in-ReadFault c = rw c.in-ReadFault.is c.put_named.ensures

pub returns-in-TooLong : goal.returns-in-TooLong
returns-in-TooLong c = rw c.in-TooLong.is c.put_too_long.ensures

pub returns-in-BadFragment : goal.returns-in-BadFragment
returns-in-BadFragment c = rw c.in-BadFragment.is c.put_bad_file.ensures

pub returns-in-NoData : goal.returns-in-NoData
returns-in-NoData c = rw c.in-NoData.is c.put_named-in-NoData.ensures

pub returns-in-BadDataset : goal.returns-in-BadDataset
returns-in-BadDataset c = rw c.in-BadDataset.is c.put_bad_file-in-BadDataset.ensures

pub returns-in-KeyText : goal.returns-in-KeyText
returns-in-KeyText c = rw c.in-KeyText.is c.put_named-in-KeyText.ensures

pub returns-in-NoSuchFragment : goal.returns-in-NoSuchFragment
returns-in-NoSuchFragment c = rw c.in-NoSuchFragment.is c.put_named-in-NoSuchFragment.ensures
