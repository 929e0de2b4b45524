use Rattle.esto_query.proofs.index.ranked_table.Goals as goal

pub table_by-requires : goal.table_by-requires
table_by-requires c = rw c.deref.ensures.value c.in_ok-names.ensures

pub returns : goal.returns
returns c = (c.in_ok-names.ensures, rw c.deref.ensures.value at c.in_ok-terms.ensures)
