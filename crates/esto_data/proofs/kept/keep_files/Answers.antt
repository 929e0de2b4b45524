use Rattle.std.proofs.Common.{◌<◌, ◌≤◌, ap, arith, get_or, length, refl, subst, sym, ◌+◌, ◌∙◌}
use Rattle.esto_course.specs.Course.Stops.{is_free}
use Rattle.esto_course.proofs.Steps.{at_exit}
use Rattle.esto_data.specs.Coding.{IsCodedFrom}
use Rattle.esto_status.proofs.AskedSteps.{handed_asks}
use Rattle.esto_status.proofs.Steps.{end_stops}
use Rattle.esto_run.proofs.FragmentLemmas.{number_inside, number_read}
use Rattle.esto_data.proofs.DatasetLemmas.{IsAlongFiles, files_end, files_end_asks, files_go, files_start, files_stop, files_stop_asks, files_want, with_file}
use Rattle.esto_data.proofs.kept.keep_files.Goals as goal

pub numbers-init : goal.numbers-init
numbers-init g c = (
  refl,
  omega arith,
  c.requires.over,
  files_start (g.S.Shelf.files c.args.shelf.now) c.args.catalogue.now.datasets c.args.numbers.now (g.S.Shelf.asked c.args.shelf.now)
      c.new-files.result c.new-files.ensures,
  subst (λ it. IsCodedFrom c.args.catalogue.now.datasets c.args.wanted.now it c.args.coded.now) (sym c.new-files.ensures) c.requires.nothing,
)

pub load_next-requires-clause-source : goal.load_next-requires-clause-source
load_next-requires-clause-source g c =
    c.requires.sources _
    (number_inside c.args.numbers.now c.items-number-items.result.now c.numbers.number-index c.items-number-items.ensures c.numbers-test.true)

pub load_next-requires-clause-over : goal.load_next-requires-clause-over
load_next-requires-clause-over g c = c.numbers.invariant.2

pub returns-in_err-bytes-clause-answer : goal.returns-in_err-bytes-clause-answer
returns-in_err-bytes-clause-answer g c =
    let items = c.items-number-items.result.now in
    let below : c.numbers.number-index < length c.args.numbers.now = omega (arith, c.numbers-test.true, ap length c.items-number-items.ensures) in
    let number = get_or items c.numbers.number-index 0 in
    let read = number_read c.args.numbers.now items c.numbers.number-index c.items-number-items.ensures c.numbers-test.true in
    let stops = rw c.numbers.invariant.0 at c.in_err-bytes.ensures.answer in
    at_exit _ _ c.from_residual.result c.from_residual.ensures.1
    (end_stops (g.S.Shelf.faults c.args.shelf.now) (g.S.Shelf.faults c.numbers.shelf) (g.S.Shelf.faults c.load_next.new.shelf)
    (g.S.Shelf.faults c.load_next.new.shelf)
    (files_stop (g.S.Shelf.files c.args.shelf.now) c.args.catalogue.now.datasets c.args.numbers.now (g.S.Shelf.asked c.args.shelf.now) c.numbers.number-index
    c.numbers.files (g.S.Shelf.asked c.numbers.shelf) c.numbers.invariant.3 number below read stops)
    c.numbers.invariant.1 c.in_err-bytes.ensures.later (omega arith))

pub returns-in_err-bytes-clause-asked : goal.returns-in_err-bytes-clause-asked
returns-in_err-bytes-clause-asked g c =
    let items = c.items-number-items.result.now in
    let below : c.numbers.number-index < length c.args.numbers.now = omega (arith, c.numbers-test.true, ap length c.items-number-items.ensures) in
    let number = get_or items c.numbers.number-index 0 in
    let read = number_read c.args.numbers.now items c.numbers.number-index c.items-number-items.ensures c.numbers-test.true in
    let asked = rw c.numbers.invariant.0 at c.in_err-bytes.ensures.asked in
    handed_asks _ _ c.from_residual.result c.from_residual.ensures.1
    (files_stop_asks (g.S.Shelf.files c.args.shelf.now) c.args.catalogue.now.datasets c.args.numbers.now (g.S.Shelf.asked c.args.shelf.now)
    c.numbers.number-index c.numbers.files (g.S.Shelf.asked c.numbers.shelf) c.numbers.invariant.3 number below read
    (g.S.Shelf.asked c.load_next.new.shelf) _ asked)

pub returns-in_err-push-clause-answer : goal.returns-in_err-push-clause-answer
returns-in_err-push-clause-answer g c = at_exit _ _ c.from_residual-in_err-push.result c.from_residual-in_err-push.ensures.1 (is_free refl)

pub returns-in_err-push-clause-asked : goal.returns-in_err-push-clause-asked
returns-in_err-push-clause-asked g c =
    let items = c.items-number-items.result.now in
    let below : c.numbers.number-index < length c.args.numbers.now = omega (arith, c.numbers-test.true, ap length c.items-number-items.ensures) in
    let number = get_or items c.numbers.number-index 0 in
    let read = number_read c.args.numbers.now items c.numbers.number-index c.items-number-items.ensures c.numbers-test.true in
    let goes = rw c.numbers.invariant.0 at c.in_ok-bytes.ensures.answer in
    let asked = rw c.numbers.invariant.0 at c.in_ok-bytes.ensures.asked in
    let later = g.S.Shelf.asked c.load_next.new.shelf in
    handed_asks _ _ c.from_residual-in_err-push.result c.from_residual-in_err-push.ensures.1
    (files_want (g.S.Shelf.files c.args.shelf.now) c.args.catalogue.now.datasets c.args.numbers.now (g.S.Shelf.asked c.args.shelf.now)
    (c.numbers.number-index + 1) (with_file c.numbers.files number c.in_ok-bytes.bytes) later
    (files_go (g.S.Shelf.files c.args.shelf.now) c.args.catalogue.now.datasets c.args.numbers.now (g.S.Shelf.asked c.args.shelf.now) c.numbers.number-index
    c.numbers.files (g.S.Shelf.asked c.numbers.shelf) c.numbers.invariant.3 number below read c.in_ok-bytes.bytes goes later asked))

pub numbers-preserved : goal.numbers-preserved
numbers-preserved g c =
    let items = c.items-number-items.result.now in
    let below : c.numbers.number-index < length c.args.numbers.now = omega (arith, c.numbers-test.true, ap length c.items-number-items.ensures) in
    let number = get_or items c.numbers.number-index 0 in
    let read = number_read c.args.numbers.now items c.numbers.number-index c.items-number-items.ensures c.numbers-test.true in
    let goes = rw c.numbers.invariant.0 at c.in_ok-bytes.ensures.answer in
    let asked = rw c.numbers.invariant.0 at c.in_ok-bytes.ensures.asked in
    let later = g.S.Shelf.asked c.load_next.new.shelf in
    let pushed = c.in_ok-push.ensures.ok in (
      c.in_ok-bytes.ensures.files ∙ c.numbers.invariant.0,
      omega (arith, c.numbers.invariant.1, c.in_ok-bytes.ensures.later),
      c.in_ok-bytes.ensures.over,
      subst (λ it. IsAlongFiles (g.S.Shelf.files c.args.shelf.now) c.args.catalogue.now.datasets c.args.numbers.now (g.S.Shelf.asked c.args.shelf.now)
          (c.numbers.number-index + 1) it later) (sym pushed)
          (files_go (g.S.Shelf.files c.args.shelf.now) c.args.catalogue.now.datasets c.args.numbers.now (g.S.Shelf.asked c.args.shelf.now)
          c.numbers.number-index c.numbers.files (g.S.Shelf.asked c.numbers.shelf) c.numbers.invariant.3 number below read
          c.in_ok-bytes.bytes goes later asked),
      subst (λ it. IsCodedFrom c.args.catalogue.now.datasets c.args.wanted.now it c.load_next.new.coded) (sym pushed)
          (c.in_ok-bytes.ensures.loaded c.numbers.files c.numbers.invariant.4),
    )

pub returns-clause-answer : goal.returns-clause-answer
returns-clause-answer g c =
    let le : length c.args.numbers.now ≤ c.numbers.number-index = omega (arith, c.numbers-test.false, ap length c.items-number-items.ensures) in
    files_end (g.S.Shelf.files c.args.shelf.now) c.args.catalogue.now.datasets c.args.numbers.now (g.S.Shelf.asked c.args.shelf.now) c.numbers.number-index
    c.numbers.files (g.S.Shelf.asked c.numbers.shelf) c.numbers.invariant.3 le

pub returns-clause-asked : goal.returns-clause-asked
returns-clause-asked g c =
    let le : length c.args.numbers.now ≤ c.numbers.number-index = omega (arith, c.numbers-test.false, ap length c.items-number-items.ensures) in
    files_end_asks (g.S.Shelf.files c.args.shelf.now) c.args.catalogue.now.datasets c.args.numbers.now (g.S.Shelf.asked c.args.shelf.now) c.numbers.number-index
    c.numbers.files (g.S.Shelf.asked c.numbers.shelf) c.numbers.invariant.3 le

pub returns-clause-loaded : goal.returns-clause-loaded
returns-clause-loaded g c = c.numbers.invariant.4
