use Rattle.std.proofs.Common.{◌<◌, ◌≤◌, [], ap, arith, get_or, length, refl, ◌∙◌}
use Rattle.esto_course.specs.Course.Stops.{is_free}
use Rattle.esto_ports.specs.Faults.{Rises}
use Rattle.esto_status.specs.declared.status.Status.TheVariants.{OutOfMemory}
use Rattle.esto_status.proofs.Steps.{end_stops}
use Rattle.esto_run.proofs.FragmentLemmas.{number_inside, number_read}
use Rattle.esto_data.proofs.DatasetLemmas.{files_start, files_stop, files_stop_asks, files_want, loading_ends, loading_exit, loading_goes, loading_starts}
use Rattle.esto_data.proofs.datasets.load_files.Goals as goal

pub returns-in_err-coded-clause-answer : goal.returns-in_err-coded-clause-answer
returns-in_err-coded-clause-answer g c =
    let files = g.S.Shelf.files c.args.shelf.now in
    let told = g.S.Shelf.asked c.args.shelf.now in
    loading_exit files c.args.catalogue.now.datasets c.args.wanted.now c.args.numbers.now OutOfMemory c.from_residual.result c.from_residual.ensures.1
    (is_free refl)
    (files_want files c.args.catalogue.now.datasets c.args.numbers.now told 0 [] told
    (files_start files c.args.catalogue.now.datasets c.args.numbers.now told [] refl))

pub numbers-init : goal.numbers-init
numbers-init g c = (
  refl,
  omega arith,
  c.in_ok-coded.ensures.over,
  loading_starts (g.S.Shelf.files c.args.shelf.now) c.args.catalogue.now.datasets c.args.wanted.now c.args.numbers.now (g.S.Shelf.asked c.args.shelf.now)
      c.in_ok-coded.coded (c.in_ok-coded.ensures.nothing c.args.wanted.now),
)

pub load_next-requires-clause-source : goal.load_next-requires-clause-source
load_next-requires-clause-source g c =
    c.requires _ (number_inside c.args.numbers.now c.items-number-items.result.now c.numbers.number-index c.items-number-items.ensures c.numbers-test.true)

pub load_next-requires-clause-over : goal.load_next-requires-clause-over
load_next-requires-clause-over g c = c.numbers.invariant.2

pub returns-in_err-load_next-clause-answer : goal.returns-in_err-load_next-clause-answer
returns-in_err-load_next-clause-answer g c =
    let items = c.items-number-items.result.now in
    let below : c.numbers.number-index < length c.args.numbers.now = omega (arith, c.numbers-test.true, ap length c.items-number-items.ensures) in
    let number = get_or items c.numbers.number-index 0 in
    let read = number_read c.args.numbers.now items c.numbers.number-index c.items-number-items.ensures c.numbers-test.true in
    let so_far = c.numbers.invariant.3 in
    let stops = rw c.numbers.invariant.0 at c.in_err-load_next.ensures.answer in
    let asked = rw c.numbers.invariant.0 at c.in_err-load_next.ensures.asked in
    loading_exit (g.S.Shelf.files c.args.shelf.now) c.args.catalogue.now.datasets c.args.wanted.now c.args.numbers.now _ c.from_residual-in_err-load_next.result
    c.from_residual-in_err-load_next.ensures.1
    (end_stops (g.S.Shelf.faults c.args.shelf.now) (g.S.Shelf.faults c.numbers.shelf) (g.S.Shelf.faults c.load_next.new.shelf)
    (g.S.Shelf.faults c.load_next.new.shelf)
    (files_stop (g.S.Shelf.files c.args.shelf.now) c.args.catalogue.now.datasets c.args.numbers.now (g.S.Shelf.asked c.args.shelf.now) c.numbers.number-index
    so_far.contents (g.S.Shelf.asked c.numbers.shelf) so_far.along number below read stops)
    c.numbers.invariant.1 c.in_err-load_next.ensures.later (omega arith))
    (files_stop_asks (g.S.Shelf.files c.args.shelf.now) c.args.catalogue.now.datasets c.args.numbers.now (g.S.Shelf.asked c.args.shelf.now)
    c.numbers.number-index so_far.contents (g.S.Shelf.asked c.numbers.shelf) so_far.along number below read (g.S.Shelf.asked c.load_next.new.shelf) _ asked)

pub numbers-preserved : goal.numbers-preserved
numbers-preserved g c =
    let goes = rw c.numbers.invariant.0 at c.in_ok-load_next.ensures.answer in
    let asked = rw c.numbers.invariant.0 at c.in_ok-load_next.ensures.asked in
    let items = c.items-number-items.result.now in
    let below : c.numbers.number-index < length c.args.numbers.now = omega (arith, c.numbers-test.true, ap length c.items-number-items.ensures) in (
      c.in_ok-load_next.ensures.files ∙ c.numbers.invariant.0,
      omega (arith, c.numbers.invariant.1, c.in_ok-load_next.ensures.later),
      c.in_ok-load_next.ensures.over,
      loading_goes (g.S.Shelf.files c.args.shelf.now) c.args.catalogue.now.datasets c.args.wanted.now c.args.numbers.now (g.S.Shelf.asked c.args.shelf.now)
          c.numbers.number-index c.numbers.coded (g.S.Shelf.asked c.numbers.shelf) c.numbers.invariant.3 (get_or items c.numbers.number-index 0) below
          (number_read c.args.numbers.now items c.numbers.number-index c.items-number-items.ensures c.numbers-test.true)
          c.load_next.new.coded c.in_ok-load_next.field-0 goes c.in_ok-load_next.ensures.loaded (g.S.Shelf.asked c.load_next.new.shelf) asked,
    )

pub returns-clause-answer : goal.returns-clause-answer
returns-clause-answer g c =
    let le : length c.args.numbers.now ≤ c.numbers.number-index = omega (arith, c.numbers-test.false, ap length c.items-number-items.ensures) in
    loading_ends (g.S.Shelf.files c.args.shelf.now) c.args.catalogue.now.datasets c.args.wanted.now c.args.numbers.now (g.S.Shelf.asked c.args.shelf.now)
    c.numbers.number-index c.numbers.coded (g.S.Shelf.asked c.numbers.shelf) c.numbers.invariant.3 le (Rises g.S.Shelf.faults c.args.shelf.now c.numbers.shelf)
