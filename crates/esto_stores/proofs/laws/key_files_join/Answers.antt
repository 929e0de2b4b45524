use Rattle.esto_stores.proofs.KeyLawLemmas.{rows_join, keys_faults_join}
use Rattle.esto_stores.proofs.laws.key_files_join.Goals as goal

pub returns-clause-rows : goal.returns-clause-rows
returns-clause-rows c = rows_join c.lines_begin_anew.ensures.join

pub returns-clause-fault : goal.returns-clause-fault
returns-clause-fault c = keys_faults_join c.faults_join.ensures
