use Rattle.std.proofs.Common.{List, [], ◌∷◌, ◌∙◌, sym, subst}
use Rattle.serde_json.specs.View.{view}
use Rattle.esto_docmodel.specs.Shapes.{entries_of}
use Rattle.esto_docmodel.specs.declared.tree.Tree.{Tree}
use Rattle.esto_docs.specs.Trees.{tree_of}
use Rattle.esto_docs.specs.Rows.{IsRowOf, Gains, OpensLine}
use Rattle.esto_docs.proofs.RowLemmas.{line_value, wanted}
use Rattle.esto_docs.proofs.rows.open_line.Goals as goal

pub returns : goal.returns
returns c =
    let es = entries_of c.args.pattern.now.entries in
    let read = line_value c.args.line.now (view c.in_ok-value.value) (sym c.is_blank.ensures ∙ c.if-is_blank.false) c.in_ok-value.ensures in
    wanted c.put_rows.result c.or_parse_error.result _
    (λ _. Gains (IsRowOf c.args.columns es (tree_of (view c.in_ok-value.value) ∷ [])) c.args.rows.now c.put_rows.new.rows)
    (OpensLine (IsRowOf c.args.columns es) c.args.line.now c.args.rows.now c.put_rows.new.rows) c.or_parse_error.ensures c.put_rows.ensures (λ _ gained. (
      read.0,
      subst (λ (ts : List Tree). Gains (IsRowOf c.args.columns es ts) c.args.rows.now c.put_rows.new.rows) (sym read.1) gained,
    )) tt
