use Rattle.std.proofs.Common.{List, sym, subst}
use Rattle.serde_json.specs.View.{items_view}
use Rattle.esto_docmodel.specs.Putting.{PutsDocuments}
use Rattle.esto_docmodel.specs.declared.tree.Tree.{Tree}
use Rattle.esto_docs.specs.Encoding.{GivesNext}
use Rattle.esto_docs.specs.Files.{array_fault, json_of, trees_of_array}
use Rattle.esto_docs.proofs.FileLemmas.{array_found}
use Rattle.esto_docs.proofs.RowLemmas.{wanted}
use Rattle.esto_docs.proofs.encode.encode_array.Goals as goal

pub returns : goal.returns
returns g c =
    let value = json_of c.args.bytes.now in
    let found = array_found c.args.bytes.now (items_view c.in_ok-items.items.items) c.in_ok-items.ensures in
    wanted c.encode_items.result c.or_file_error.result _ _
    (GivesNext g.S.FactSink.Holds g.S.FactSink.arities c.args.relations.now c.args.first (trees_of_array value) (array_fault value) c.args.sink.now
    c.encode_items.new.sink) c.or_file_error.ensures c.encode_items.ensures (λ next puts. (
      found.0,
      subst (λ (trees : List Tree). PutsDocuments g.S.FactSink.Holds g.S.FactSink.arities c.args.relations.now trees c.args.first next c.args.sink.now
          c.encode_items.new.sink) (sym found.1) puts,
    )) tt
