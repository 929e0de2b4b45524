use Rattle.std.proofs.Common.{◌≤◌, ◌<◌, length, get_or, refl, ap, ◌∙◌, arith}
use Rattle.esto_ports.specs.Faults.{Rises}
use Rattle.esto_run.specs.Opened.{rows_held}
use Rattle.esto_course.specs.Course.Stops.{is_free}
use Rattle.esto_run.specs.Fragments.{no_contents, opens_fragments}
use Rattle.esto_status.specs.declared.status.Status.TheVariants.{OutOfMemory}
use Rattle.esto_status.proofs.AskedSteps.{early_want}
use Rattle.esto_run.proofs.FragmentLemmas.{fragments_way, number_inside, number_read, opening_ends, opening_exit, opening_goes, opening_starts}
use Rattle.esto_run.proofs.FragmentLemmas.{opening_stop_asks, opening_stops}
use Rattle.esto_status.proofs.Steps.{end_stops}
use Rattle.esto_run.proofs.fragments.open_fragments.Goals as goal

pub numbers-init : goal.numbers-init
numbers-init g c = (
  refl,
  omega arith,
  c.in_ok-opened.ensures.rows,
  opening_starts (g.S.Shelf.files c.args.shelf.now) c.args.catalogue.now c.args.numbers.now (g.S.Shelf.asked c.args.shelf.now) (rows_held c.in_ok-opened.opened)
      (c.in_ok-opened.ensures.opened c.args.catalogue.now.stores no_contents),
)

pub returns-in_err-opened-clause-answer : goal.returns-in_err-opened-clause-answer
returns-in_err-opened-clause-answer g c =
    let files = g.S.Shelf.files c.args.shelf.now in
    opening_exit files c.args.catalogue.now c.args.numbers.now OutOfMemory c.from_residual.result c.from_residual.ensures.1 (is_free refl)
    (early_want (opens_fragments files c.args.catalogue.now c.args.numbers.now) (g.S.Shelf.asked c.args.shelf.now)
    (fragments_way files c.args.catalogue.now c.args.numbers.now))

pub open_next-requires-clause-there : goal.open_next-requires-clause-there
open_next-requires-clause-there g c =
    c.requires.there _ (number_inside c.args.numbers.now c.items-number-items.result.now c.numbers.number-index c.items-number-items.ensures
    c.numbers-test.true)

pub returns-in_err-open_next-clause-answer : goal.returns-in_err-open_next-clause-answer
returns-in_err-open_next-clause-answer g c =
    let stops = rw c.numbers.invariant.0 at c.in_err-open_next.ensures.answer in
    let items = c.items-number-items.result.now in
    let below : c.numbers.number-index < length c.args.numbers.now = omega (arith, c.numbers-test.true, ap length c.items-number-items.ensures) in
    opening_exit (g.S.Shelf.files c.args.shelf.now) c.args.catalogue.now c.args.numbers.now _ c.from_residual-in_err-open_next.result
    c.from_residual-in_err-open_next.ensures.1
    (end_stops (g.S.Shelf.faults c.args.shelf.now) (g.S.Shelf.faults c.numbers.shelf) (g.S.Shelf.faults c.open_next.new.shelf)
    (g.S.Shelf.faults c.open_next.new.shelf)
    (opening_stops (g.S.Shelf.files c.args.shelf.now) c.args.catalogue.now c.args.numbers.now (g.S.Shelf.asked c.args.shelf.now) c.numbers.number-index
    (rows_held c.numbers.opened) (g.S.Shelf.asked c.numbers.shelf) c.numbers.invariant.3 (get_or items c.numbers.number-index 0) below
    (number_read c.args.numbers.now items c.numbers.number-index c.items-number-items.ensures c.numbers-test.true) stops.0)
    c.numbers.invariant.1 c.in_err-open_next.ensures.later (omega arith))
    (opening_stop_asks (g.S.Shelf.files c.args.shelf.now) c.args.catalogue.now c.args.numbers.now (g.S.Shelf.asked c.args.shelf.now)
    c.numbers.number-index (rows_held c.numbers.opened) (g.S.Shelf.asked c.numbers.shelf) c.numbers.invariant.3 (get_or items c.numbers.number-index 0)
    below (number_read c.args.numbers.now items c.numbers.number-index c.items-number-items.ensures c.numbers-test.true)
    (g.S.Shelf.asked c.open_next.new.shelf) _ stops.1)

pub numbers-preserved : goal.numbers-preserved
numbers-preserved g c =
    let opens = rw c.numbers.invariant.0 at c.in_ok-open_next.ensures.answer in
    let items = c.items-number-items.result.now in
    let below : c.numbers.number-index < length c.args.numbers.now = omega (arith, c.numbers-test.true, ap length c.items-number-items.ensures) in (
      c.in_ok-open_next.ensures.files ∙ c.numbers.invariant.0,
      omega (arith, c.numbers.invariant.1, c.in_ok-open_next.ensures.later),
      c.open_next.ensures.rows,
      opening_goes (g.S.Shelf.files c.args.shelf.now) c.args.catalogue.now c.args.numbers.now (g.S.Shelf.asked c.args.shelf.now) c.numbers.number-index
          (rows_held c.numbers.opened) (g.S.Shelf.asked c.numbers.shelf) c.numbers.invariant.3 (get_or items c.numbers.number-index 0) below
          (number_read c.args.numbers.now items c.numbers.number-index c.items-number-items.ensures c.numbers-test.true)
          (rows_held c.open_next.new.opened) opens.0 c.requires.distinct opens.1 opens.2 (g.S.Shelf.asked c.open_next.new.shelf) opens.3,
    )

pub returns-clause-answer : goal.returns-clause-answer
returns-clause-answer g c =
    let le : length c.args.numbers.now ≤ c.numbers.number-index = omega (arith, c.numbers-test.false, ap length c.items-number-items.ensures) in
    opening_ends (g.S.Shelf.files c.args.shelf.now) c.args.catalogue.now c.args.numbers.now (g.S.Shelf.asked c.args.shelf.now) c.numbers.number-index
    c.numbers.opened (g.S.Shelf.asked c.numbers.shelf) c.numbers.invariant.3 le c.numbers.invariant.2 (Rises g.S.Shelf.faults c.args.shelf.now c.numbers.shelf)

pub returns-in_err-open_next-clause-files : goal.returns-in_err-open_next-clause-files
returns-in_err-open_next-clause-files g c = c.in_err-open_next.ensures.files ∙ c.numbers.invariant.0

pub returns-in_err-open_next-clause-later : goal.returns-in_err-open_next-clause-later
returns-in_err-open_next-clause-later g c = omega (arith, c.numbers.invariant.1, c.in_err-open_next.ensures.later)

pub open_next-requires-clause-rows : goal.open_next-requires-clause-rows
open_next-requires-clause-rows g c = c.numbers.invariant.2
