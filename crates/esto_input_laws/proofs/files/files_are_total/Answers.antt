use Rattle.esto_docs.specs.Files.{file_trees, trees_fault}
use Rattle.esto_stores.specs.Keys.{key_rows, key_fault}
use Rattle.esto_stores.specs.Table.{table_rows, table_fault}
use Rattle.esto_input_laws.proofs.FileLemmas.{value_or_fault, rows_or_fault, stored_or_fault}
use Rattle.esto_input_laws.proofs.files.files_are_total.Goals as goal

pub returns-clause-table : goal.returns-clause-table
returns-clause-table c = λ columns bytes. value_or_fault (table_rows columns bytes) (table_fault columns bytes)

pub returns-clause-keys : goal.returns-clause-keys
returns-clause-keys c = λ width bytes. value_or_fault (key_rows bytes) (key_fault width bytes)

pub returns-clause-documents : goal.returns-clause-documents
returns-clause-documents c = λ layout bytes. value_or_fault (file_trees layout bytes) (trees_fault layout bytes)

pub returns-clause-rows : goal.returns-clause-rows
returns-clause-rows c = λ columns entries layout is bytes. rows_or_fault columns entries (file_trees layout bytes) (trees_fault layout bytes) is

pub returns-clause-stored : goal.returns-clause-stored
returns-clause-stored c = λ shape view is bytes. stored_or_fault shape view bytes is
