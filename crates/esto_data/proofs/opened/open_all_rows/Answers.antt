use Rattle.std.proofs.Common.{◌<◌, arith, length, refl, ◌∙◌}
use Rattle.esto_ports.specs.Faults.{Rises}
use Rattle.esto_status.proofs.Steps.{end_stops}
use Rattle.esto_data.proofs.CodedRowLemmas.{stays_itself, stays_on}
use Rattle.esto_data.proofs.CodedLemmas.{still_coded}
use Rattle.esto_data.proofs.RowLemmas.{all_rows_exit, rows_end, rows_go, rows_start, rows_stop, rows_stop_asks}
use Rattle.esto_data.proofs.opened.open_all_rows.Goals as goal

pub fragments-init : goal.fragments-init
fragments-init g c = (
  refl,
  omega arith,
  stays_itself c.args.coded.now,
  rows_start (g.S.Shelf.files c.args.shelf.now) c.args.catalogue.now (g.S.Shelf.asked c.args.shelf.now) c.args.coded.now.facts.texts
      c.new-rows.result c.new-rows.ensures,
)

pub open_rows-requires-clause-coded : goal.open_rows-requires-clause-coded
open_rows-requires-clause-coded g c = still_coded _ _ c.fragments.invariant.2 c.requires

pub returns-in_err-open_rows-clause-answer : goal.returns-in_err-open_rows-clause-answer
returns-in_err-open_rows-clause-answer g c =
    let stops = rw c.fragments.invariant.0 at c.in_err-open_rows.ensures.answer in
    let below : c.fragments.number < length c.args.catalogue.now.fragments = omega (arith, c.fragments-test.true, c.len-number-end.ensures) in
    all_rows_exit (g.S.Shelf.files c.args.shelf.now) c.args.catalogue.now _ _ c.from_residual.result c.from_residual.ensures.1
    (end_stops (g.S.Shelf.faults c.args.shelf.now) (g.S.Shelf.faults c.fragments.shelf) (g.S.Shelf.faults c.open_rows.new.shelf)
    (g.S.Shelf.faults c.open_rows.new.shelf)
    (rows_stop (g.S.Shelf.files c.args.shelf.now) c.args.catalogue.now (g.S.Shelf.asked c.args.shelf.now) c.fragments.number c.fragments.coded.facts.texts
    c.fragments.rows (g.S.Shelf.asked c.fragments.shelf) c.fragments.invariant.3 below stops.0)
    c.fragments.invariant.1 c.in_err-open_rows.ensures.later (omega arith))
    (rows_stop_asks (g.S.Shelf.files c.args.shelf.now) c.args.catalogue.now (g.S.Shelf.asked c.args.shelf.now) c.fragments.number c.fragments.coded.facts.texts
    c.fragments.rows (g.S.Shelf.asked c.fragments.shelf) c.fragments.invariant.3 below (g.S.Shelf.asked c.open_rows.new.shelf) _ stops.1)

pub fragments-preserved : goal.fragments-preserved
fragments-preserved g c =
    let opens = rw c.fragments.invariant.0 at c.in_ok-open_rows.ensures.answer in
    let below : c.fragments.number < length c.args.catalogue.now.fragments = omega (arith, c.fragments-test.true, c.len-number-end.ensures) in (
      c.in_ok-open_rows.ensures.files ∙ c.fragments.invariant.0,
      omega (arith, c.fragments.invariant.1, c.in_ok-open_rows.ensures.later),
      stays_on _ _ _ c.fragments.invariant.2 c.in_ok-open_rows.ensures.stays,
      rows_go (g.S.Shelf.files c.args.shelf.now) c.args.catalogue.now (g.S.Shelf.asked c.args.shelf.now) c.fragments.number c.fragments.coded.facts.texts
          c.fragments.rows (g.S.Shelf.asked c.fragments.shelf) c.fragments.invariant.3 below c.open_rows.new.coded.facts.texts c.open_rows.new.rows
          opens.0 opens.1 opens.2 opens.3 opens.4 (g.S.Shelf.asked c.open_rows.new.shelf) opens.5,
    )

pub returns-clause-answer : goal.returns-clause-answer
returns-clause-answer g c =
    rows_end (g.S.Shelf.files c.args.shelf.now) c.args.catalogue.now (g.S.Shelf.asked c.args.shelf.now) c.fragments.number c.fragments.coded.facts.texts
    c.fragments.rows (g.S.Shelf.asked c.fragments.shelf) c.fragments.invariant.3
    (omega (arith, c.fragments-test.false, c.fragments.auto.number-end, c.len-number-end.ensures))
    (c.catalogues_are_sound.ensures c.args.catalogue.now).stored (Rises g.S.Shelf.faults c.args.shelf.now c.fragments.shelf)

pub returns-clause-stays : goal.returns-clause-stays
returns-clause-stays g c = c.fragments.invariant.2
