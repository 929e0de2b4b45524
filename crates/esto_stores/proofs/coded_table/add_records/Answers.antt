use Rattle.std.proofs.Common.{ap, arith, length}
use Rattle.std.proofs.lemmas.Result.{err_from_is_err_and}
use Rattle.csv.specs.Records.{fields_of}
use Rattle.esto_ports.specs.declared.file_fault.FileKind.TheVariants.{Length}
use Rattle.esto_stores.specs.Left.{left_of}
use Rattle.esto_stores.specs.Table.{cells_at}
use Rattle.esto_columns.proofs.CodingLemmas.{grows_on}
use Rattle.esto_columns.specs.CodedRows.{CodedRows}
use Rattle.esto_stores.proofs.CodedLemmas.{rows_done, rows_go, rows_start, rows_stop}
use Rattle.esto_stores.proofs.RowLemmas.{taken_none, taken_some}
use Rattle.esto_stores.proofs.coded_table.add_records.Goals as goal

pub records-init : goal.records-init
records-init c = (
  c.requires.reads,
  rows_start Length c.args.header.now.width (cells_at c.args.header.now.places) (left_of c.args.reader.now) c.args.codes.now
      (length c.args.header.now.places) c.args.coded.now (ap (λ (it : CodedRows). it.rows) c.requires.empty)
      (ap (λ (it : CodedRows). it.arity) c.requires.empty),
)

pub records-smaller : goal.records-smaller
records-smaller c = omega (arith, ap length (taken_some _ _ _ _ c.in_ok-read_next.ensures.taken c.if-branch.true))

pub returns-clause-grown : goal.returns-clause-grown
returns-clause-grown c = c.records.invariant.1.grown

pub returns-in_err-add_record-clause-grown : goal.returns-in_err-add_record-clause-grown
returns-in_err-add_record-clause-grown c =
    grows_on c.args.codes.now c.records.codes c.add_record.new.codes c.records.invariant.1.grown c.add_record.ensures.grown

pub returns-in_err-read_next-clause-grown : goal.returns-in_err-read_next-clause-grown
returns-in_err-read_next-clause-grown c = c.records.invariant.1.grown

pub records-preserved : goal.records-preserved
records-preserved c = (
  c.in_ok-read_next.ensures.reads c.if-branch.true,
  rows_go Length c.args.header.now.width (cells_at c.args.header.now.places) (left_of c.args.reader.now) (left_of c.records.reader)
      (left_of c.read_next.new.reader) c.args.codes.now c.records.codes c.add_record.new.codes (length c.args.header.now.places) c.records.coded
      c.add_record.new.coded (fields_of c.read_next.new.cells) c.records.invariant.1
      (taken_some _ _ _ _ c.in_ok-read_next.ensures.taken c.if-branch.true) c.in_ok-add_record.ensures.adds c.add_record.ensures.grown,
)

pub returns-in_err-add_record-clause-rows : goal.returns-in_err-add_record-clause-rows
returns-in_err-add_record-clause-rows c =
    let p = err_from_is_err_and c.from_residual-in_err-add_record.result c.from_residual-in_err-add_record.ensures.1 in
    rw (p.1, p.2) (rows_stop Length c.args.header.now.width (cells_at c.args.header.now.places) (left_of c.args.reader.now) (left_of c.records.reader)
    (left_of c.read_next.new.reader) c.args.codes.now c.records.codes c.add_record.new.codes (length c.args.header.now.places) c.records.coded
    c.add_record.new.coded (fields_of c.read_next.new.cells) c.in_err-add_record.field-0.0 c.records.invariant.1
    (taken_some _ _ _ _ c.in_ok-read_next.ensures.taken c.if-branch.true) c.in_err-add_record.ensures.adds)

pub returns-clause-rows : goal.returns-clause-rows
returns-clause-rows c =
    rows_done Length c.args.header.now.width (cells_at c.args.header.now.places) (left_of c.args.reader.now) (left_of c.records.reader) c.args.codes.now
    c.records.codes (length c.args.header.now.places) c.records.coded c.records.invariant.1
    (taken_none _ _ _ _ c.in_ok-read_next.ensures.taken c.if-branch.false)
