use Rattle.std.proofs.Common.{◌≡◌, ◌≢◌, ◌∙◌, ◌∷◌, ◌++◌, ◌+◌, [], ℕ, sym, ap, length, map}
use Rattle.std.proofs.lemmas.List.{get_or_read}
use Rattle.csv.specs.Records.{fields_of}
use Rattle.esto_ports.specs.declared.file_fault.FileKind.TheVariants.{Header}
use Rattle.esto_ports.specs.FileFaults.{fault_at}
use Rattle.esto_stores.specs.Table.{place_in, times_in}
use Rattle.esto_stores.proofs.TableLemmas.{column_goes, column_stops, columns_end}
use Rattle.esto_stores.proofs.RowLemmas.{gives_fault}
use Rattle.esto_stores.proofs.header.find_columns.Goals as goal

pub returns-then-count_name-ne1 : goal.returns-then-count_name-ne1
returns-then-count_name-ne1 c =
    let header = fields_of c.args.header.now in
    let name = get_or_read c.args.columns.now c.columns.column-index c.column-item.result c.columns-test.true c.column-item.is [] in
    let times : times_in header c.column-item.result ≢ 1 = λ e. c.if-count_name-ne1.true (c.count_name.ensures ∙ ap (times_in header) c.bytes.ensures.value
    ∙ e) in
    gives_fault (map (place_in header) c.args.columns.now) _ (fault_at Header (length c.columns.places + 1)) _ (c.fault.ensures ∙ rw c.len.ensures)
    (column_stops header c.args.columns.now c.columns.column-index c.columns.places c.column-item.result c.columns-test.true name c.columns.invariant times)

pub columns-preserved : goal.columns-preserved
columns-preserved c =
    let header = fields_of c.args.header.now in
    let name = get_or_read c.args.columns.now c.columns.column-index c.column-item.result c.columns-test.true c.column-item.is [] in
    let times : times_in header c.column-item.result ≡ 1 = sym (ap (times_in header) c.bytes.ensures.value) ∙ sym c.count_name.ensures
    ∙ c.if-count_name-ne1.false in
    let place : c.find_name.result ≡ place_in header c.column-item.result = c.find_name.ensures ∙ ap (place_in header) c.bytes-in-columns.ensures.value in
    let more = column_goes header c.args.columns.now c.columns.column-index c.columns.places c.column-item.result c.columns-test.true name c.columns.invariant
    times in
    (c.in_ok-push.ensures.ok ∙ ap (λ (p : ℕ). c.columns.places ++ p ∷ []) place ∙ more.0, more.1)

pub returns : goal.returns
returns c = columns_end (fields_of c.args.header.now) c.args.columns.now c.columns.column-index c.columns.places c.columns-test.false c.columns.invariant
