use Rattle.esto_run.proofs.FragmentAlikeLemmas.{fragment_agree, fragments_agree}
use Rattle.esto_run.proofs.StoreAlikeLemmas.{one_content, one_fault_in, one_file_named}
use Rattle.esto_run.proofs.fragment_laws.fragment_files_are_one.Goals as goal

pub returns-clause-fragment : goal.returns-clause-fragment
returns-clause-fragment c = λ files catalogue other number alike. fragment_agree files catalogue other alike number

pub returns-clause-fragments : goal.returns-clause-fragments
returns-clause-fragments c = λ files catalogue other numbers alike. fragments_agree files catalogue other alike numbers

pub returns-clause-rows : goal.returns-clause-rows
returns-clause-rows c = one_content

pub returns-clause-file : goal.returns-clause-file
returns-clause-file c = one_file_named

pub returns-clause-fault : goal.returns-clause-fault
returns-clause-fault c = one_fault_in
