use Rattle.std.proofs.Common.{refl, sym, subst, ap, arith, length, map}
use Rattle.std.proofs.lemmas.Result.{err_from_is_err_and}
use Rattle.csv.specs.Records.{fields_of}
use Rattle.esto_ports.specs.declared.file_fault.FileKind.TheVariants.{Length}
use Rattle.esto_stores.specs.Left.{left_of}
use Rattle.esto_stores.specs.Table.{cells_at}
use Rattle.esto_stores.proofs.RowLemmas.{HasRead, added_goes, added_stops, rows_end, taken_some, taken_none}
use Rattle.esto_stores.proofs.table.read_rows.Goals as goal

pub records-init : goal.records-init
records-init c =
    let left = left_of c.args.reader.now in (
      c.requires,
      subst (HasRead Length c.args.width (cells_at c.args.places.now) left left) (sym c.new-rows.ensures) (record { same = refl; fault = refl }),
    )

pub records-smaller : goal.records-smaller
records-smaller c = omega (arith, ap length (taken_some _ _ _ _ c.in_ok-read_next.ensures.taken c.if-branch.true))

pub records-preserved : goal.records-preserved
records-preserved c = (
  c.in_ok-read_next.ensures.reads c.if-branch.true,
  added_goes Length c.args.width (cells_at c.args.places.now) _ _ _ _ _ (fields_of c.read_next.new.cells) c.records.invariant.1
      (taken_some _ _ _ _ c.in_ok-read_next.ensures.taken c.if-branch.true) c.in_ok-add_record.ensures,
)

pub returns-in_err-add_record : goal.returns-in_err-add_record
returns-in_err-add_record c =
    let taken = cells_at c.args.places.now in
    let p = err_from_is_err_and c.from_residual-in_err-add_record.result c.from_residual-in_err-add_record.ensures.1 in
    rw (p.1, p.2) (added_stops (map taken (left_of c.args.reader.now)) Length c.args.width taken _ _ _ _ c.add_record.new.rows
    (fields_of c.read_next.new.cells) c.in_err-add_record.field-0.0 c.records.invariant.1
    (taken_some _ _ _ _ c.in_ok-read_next.ensures.taken c.if-branch.true) c.in_err-add_record.ensures)

pub returns : goal.returns
returns c = rows_end Length c.args.width (cells_at c.args.places.now) _ _ _ c.records.invariant.1
    (taken_none _ _ _ _ c.in_ok-read_next.ensures.taken c.if-branch.false)
