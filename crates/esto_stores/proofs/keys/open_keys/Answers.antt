use Rattle.std.proofs.Common.{◌∙◌, ◌==◌, ◌+◌, List, refl, sym, ap, length}
use Rattle.std.specs.List.{slice_split}
use Rattle.std.proofs.lemmas.List.{map-id}
use Rattle.std.proofs.lemmas.Bool.{eqb-true}
use Rattle.std.proofs.lemmas.Result.{err_from_is_err_and}
use Rattle.esto_ports.specs.declared.file_fault.FileKind.TheVariants.{Cells}
use Rattle.esto_stores.specs.Keys.{tab, key_rows, key_fault}
use Rattle.esto_stores.specs.Rows.{Row}
use Rattle.esto_stores.proofs.RowLemmas.{added_goes, added_stops, rows_end}
use Rattle.esto_stores.proofs.KeyLemmas.{keys_next, keys_end}
use Rattle.esto_stores.proofs.keys.open_keys.Goals as goal

pub add_line-requires : goal.add_line-requires
add_line-requires c = ap (λ (rows : List Row). length rows + 1) c.items.ensures

pub lines-preserved : goal.lines-preserved
lines-preserved c =
    added_goes Cells c.args.cells (λ cells. cells) _ _ _ _ _ (slice_split (λ b. b == tab) c.drop_return.result.now) c.lines.invariant
    (keys_next _ _ _ _ _ c.cut_line.ensures.lines c.drop_return.ensures refl) c.in_ok-add_line.ensures

pub returns-in_err-add_line : goal.returns-in_err-add_line
unfolding key_fault
returns-in_err-add_line c =
    let p = err_from_is_err_and c.from_residual.result c.from_residual.ensures.1 in
    rw (p.1, p.2) (added_stops (key_rows c.args.bytes.now) Cells c.args.cells (λ cells. cells) _ _ _ _ c.add_line.new.rows
    (slice_split (λ b. b == tab) c.drop_return.result.now) c.in_err-add_line.field-0.0 c.lines.invariant
    (keys_next _ _ _ _ _ c.cut_line.ensures.lines c.drop_return.ensures refl) c.in_err-add_line.ensures)

pub returns : goal.returns
unfolding key_fault
returns c =
    let end = rows_end Cells c.args.cells (λ cells. cells) (key_rows c.args.bytes.now) _ _ c.lines.invariant
    (keys_end _ (eqb-true (length c.lines.rest.now) 0 (sym c.is_empty.ensures ∙ c.lines-test.false))) in
    (end.0, end.1 ∙ map-id (key_rows c.args.bytes.now))
