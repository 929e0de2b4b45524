use Rattle.std.proofs.Common.{◌∙◌, ℕ, List, ◌∷◌, [], length, ap, sym, subst, ◌≡◌}
use Rattle.std.proofs.lemmas.Result.{on_ok_weaker}
use Rattle.serde_json.specs.View.{view}
use Rattle.esto_term.specs.declared.term.Term.{Term}
use Rattle.esto_docmodel.specs.Patterns.{Matches}
use Rattle.esto_docmodel.specs.Shapes.{entries_of}
use Rattle.esto_docmodel.specs.declared.pattern.Entry.{Entry}
use Rattle.esto_docs.specs.Filling.{value_node, cells_of, AreReady, Completes}
use Rattle.esto_docs.specs.Rows.{row_map, Gains}
use Rattle.esto_docs.specs.Trees.{tree_of}
use Rattle.esto_docs.proofs.FillingLemmas.{cells_count, document_rows, document_none, layout_ready}
use Rattle.esto_docs.proofs.filling.put_rows.Goals as goal

pub put_completing-requires : goal.put_completing-requires
put_completing-requires c =
    let node = value_node (view c.args.value.now) in
    let size : length c.deref_mut.result.now ≡ c.args.columns = ap length c.deref_mut.ensures.value ∙ sym c.in-Ok.cells.ok.0 ∙ c.in-Ok.ensures.len in
    subst (λ (n : ℕ). AreReady n ((entries_of c.items-entries.result.now, node) ∷ [])) (sym size)
    (subst (λ (es : List Entry). AreReady c.args.columns ((entries_of es, node) ∷ [])) (sym c.items-entries.ensures)
    (layout_ready c.args.columns (entries_of c.args.pattern.now.entries) node c.requires))

pub returns-then-not-can_match : goal.returns-then-not-can_match
returns-then-not-can_match c =
    let none = subst (λ (es : List Entry). (m : Term → Term) → ¬ (Matches m (entries_of es) (value_node (view c.args.value.now)))) c.items-entries.ensures
    (c.can_match.ensures c.if-not-can_match.true) in
    document_none c.args.columns (entries_of c.args.pattern.now.entries) (tree_of (view c.args.value.now)) c.args.rows.now (λ row. none (row_map row))

pub returns-in-Ok : goal.returns-in-Ok
returns-in-Ok c =
    let es = entries_of c.args.pattern.now.entries in
    let node = value_node (view c.args.value.now) in
    let cells = cells_of c.deref_mut.result.now in
    let size : length c.deref_mut.result.now ≡ c.args.columns = ap length c.deref_mut.ensures.value ∙ sym c.in-Ok.cells.ok.0 ∙ c.in-Ok.ensures.len in
    on_ok_weaker c.put_completing.result
    (λ gains. document_rows c.args.columns es (tree_of (view c.args.value.now)) cells c.args.rows.now c.put_completing.new.rows c.requires
    (cells_count c.deref_mut.result.now ∙ size)
    (subst (λ (n : ℕ). Gains (Completes n ((es, node) ∷ []) cells) c.args.rows.now c.put_completing.new.rows) size
    (subst (λ (xs : List Entry). Gains (Completes (length c.deref_mut.result.now) ((entries_of xs, node) ∷ []) cells) c.args.rows.now
    c.put_completing.new.rows) c.items-entries.ensures gains))) c.put_completing.ensures
