use Rattle.serde_json.specs.View.{view}
use Rattle.esto_docs.specs.Parsing.{ParsesTree}
use Rattle.esto_docs.proofs.RowLemmas.{wanted}
use Rattle.esto_docs.proofs.trees.parse_tree.Goals as goal

pub returns : goal.returns
returns c =
    wanted c.tree_of.result c.or_parse_error.result _ _ (ParsesTree c.args.bytes.now) c.or_parse_error.ensures c.tree_of.ensures
    (λ tree is. (view c.in_ok-value.value, c.in_ok-value.ensures, is)) tt
