use Rattle.std.proofs.Common.{◌≡◌, [], true, rules}
use Rattle.std.specs.Result.{is_ok}
use Rattle.std.proofs.lemmas.List.{get_or_read}
use Rattle.esto_stores.proofs.RowLemmas.{lend_goes, lend_end}
use Rattle.esto_stores.proofs.table_text.lend_cells.Goals as goal

pub cells-preserved : goal.cells-preserved
cells-preserved c =
    let good : is_ok c.push.result ≡ true = search rules in
    let item = get_or_read c.args.row.now c.cells.cell-index c.cell-item.result c.cells-test.true c.cell-item.is [] in
    lend_goes c.args.row.now c.cells.cell-index c.cells.cells.items _ c.bytes.result c.cell-item.result c.cells.invariant c.cells-test.true item
    c.bytes.ensures.value c.bytes.ensures.utf8
    (rw good at c.push.ensures.items)

pub returns-clause-cells : goal.returns-clause-cells
returns-clause-cells c = (lend_end c.args.row.now c.cells.cell-index c.cells.cells.items c.cells.invariant c.cells-test.false).0

pub returns-clause-texts : goal.returns-clause-texts
returns-clause-texts c = (lend_end c.args.row.now c.cells.cell-index c.cells.cells.items c.cells.invariant c.cells-test.false).1
