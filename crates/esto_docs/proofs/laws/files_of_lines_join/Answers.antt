use Rattle.esto_docs.proofs.LineLemmas.{trees_join, faults_join}
use Rattle.esto_docs.proofs.RowLemmas.{rows_join}
use Rattle.esto_docs.proofs.laws.files_of_lines_join.Goals as goal

pub returns-clause-rows : goal.returns-clause-rows
returns-clause-rows c = rows_join (trees_join c.lines_begin_anew.ensures.join)

pub returns-clause-fault : goal.returns-clause-fault
returns-clause-fault c = faults_join c.faults_join.ensures
