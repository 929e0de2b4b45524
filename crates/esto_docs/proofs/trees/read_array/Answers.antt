use Rattle.std.proofs.Common.{◌∙◌, sym}
use Rattle.serde_json.specs.View.{items_view}
use Rattle.esto_ports.specs.FileFaults.{Gives}
use Rattle.esto_docs.specs.Files.{array_fault, json_of, trees_of_array}
use Rattle.esto_docs.proofs.FileLemmas.{array_found}
use Rattle.esto_docs.proofs.RowLemmas.{wanted}
use Rattle.esto_docs.proofs.trees.read_array.Goals as goal

pub returns : goal.returns
returns c =
    let value = json_of c.args.bytes.now in
    let found = array_found c.args.bytes.now (items_view c.in_ok-items.items.items) c.in_ok-items.ensures in
    wanted c.trees_of.result c.or_file_error.result _ _ (Gives (trees_of_array value) (array_fault value)) c.or_file_error.ensures c.trees_of.ensures
    (λ trees is. (found.0, is ∙ sym found.1)) tt
