use Rattle.std.proofs.Common.{◌∙◌, ◌==◌, ℕ, List, refl, sym, subst, length}
use Rattle.std.specs.Prelude.{Ok, Err}
use Rattle.std.specs.List.{slice_split}
use Rattle.std.proofs.lemmas.List.{map-id}
use Rattle.std.proofs.lemmas.Bool.{eqb-true}
use Rattle.std.proofs.lemmas.Result.{err_from_is_err_and}
use Rattle.esto_ports.specs.declared.file_fault.FileKind.TheVariants.{Cells}
use Rattle.esto_stores.specs.Coded.{AddsRow, FillsRows}
use Rattle.esto_stores.specs.Keys.{tab, key_rows, key_fault}
use Rattle.esto_stores.specs.Rows.{Row}
use Rattle.esto_stores.proofs.CodedLemmas.{rows_done, rows_go, rows_stop}
use Rattle.esto_stores.proofs.KeyLemmas.{keys_end, keys_next}
use Rattle.esto_stores.proofs.coded_keys.add_lines.Goals as goal

pub lines-preserved : goal.lines-preserved
lines-preserved c =
    let cells = slice_split (λ b. b == tab) c.drop_return.result.now in
    rows_go Cells c.args.coded.now.arity (λ it. it) (key_rows c.args.bytes.now) (key_rows c.lines.rest.now) (key_rows c.cut_line.result.1.now)
    c.args.codes.now c.lines.codes c.add_line.new.codes c.args.coded.now.arity c.lines.coded c.add_line.new.coded cells c.lines.invariant
    (keys_next _ _ _ _ _ c.cut_line.ensures.lines c.drop_return.ensures refl)
    (subst (λ (n : ℕ). AddsRow Cells n (λ it. it) cells c.lines.codes c.lines.coded c.add_line.new.codes c.add_line.new.coded (Ok tt))
    c.lines.invariant.columns c.in_ok-add_line.ensures.adds) c.add_line.ensures.grown

pub returns-in_err-add_line-clause-rows : goal.returns-in_err-add_line-clause-rows
unfolding key_fault
returns-in_err-add_line-clause-rows c =
    let cells = slice_split (λ b. b == tab) c.drop_return.result.now in
    let p = err_from_is_err_and c.from_residual.result c.from_residual.ensures.1 in
    let stop = rows_stop Cells c.args.coded.now.arity (λ it. it) (key_rows c.args.bytes.now) (key_rows c.lines.rest.now) (key_rows c.cut_line.result.1.now)
    c.args.codes.now c.lines.codes c.add_line.new.codes c.args.coded.now.arity c.lines.coded c.add_line.new.coded cells c.in_err-add_line.field-0.0
    c.lines.invariant (keys_next _ _ _ _ _ c.cut_line.ensures.lines c.drop_return.ensures refl)
    (subst (λ (n : ℕ). AddsRow Cells n (λ it. it) cells c.lines.codes c.lines.coded c.add_line.new.codes c.add_line.new.coded (Err c.in_err-add_line.field-0.0))
    c.lines.invariant.columns c.in_err-add_line.ensures.adds) in
    rw (p.1, p.2) (subst (λ (rows : List Row). FillsRows rows (key_fault c.args.coded.now.arity c.args.bytes.now) c.args.coded.now.arity c.add_line.new.codes
    c.add_line.new.coded (Err c.in_err-add_line.field-0.0)) (map-id (key_rows c.args.bytes.now)) stop)

pub returns-clause-rows : goal.returns-clause-rows
unfolding key_fault
returns-clause-rows c =
    subst (λ (rows : List Row). FillsRows rows (key_fault c.args.coded.now.arity c.args.bytes.now) c.args.coded.now.arity c.lines.codes c.lines.coded (Ok tt))
    (map-id (key_rows c.args.bytes.now))
    (rows_done Cells c.args.coded.now.arity (λ it. it) (key_rows c.args.bytes.now) (key_rows c.lines.rest.now) c.args.codes.now c.lines.codes
    c.args.coded.now.arity c.lines.coded c.lines.invariant (keys_end _ (eqb-true (length c.lines.rest.now) 0 (sym c.is_empty.ensures ∙ c.lines-test.false))))
