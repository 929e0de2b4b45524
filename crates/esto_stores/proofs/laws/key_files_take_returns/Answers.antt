use Rattle.esto_stores.proofs.KeyLawLemmas.{rows_take_returns, faults_take_returns}
use Rattle.esto_stores.proofs.laws.key_files_take_returns.Goals as goal

pub returns-clause-rows : goal.returns-clause-rows
returns-clause-rows c = rows_take_returns

pub returns-clause-fault : goal.returns-clause-fault
returns-clause-fault c = faults_take_returns
