use Rattle.std.proofs.Common.{◌<◌, ◌≤◌, ap, arith, get_or, length}
use Rattle.esto_course.proofs.Steps.{at_exit}
use Rattle.esto_run.proofs.FragmentLemmas.{number_inside, number_read}
use Rattle.esto_data.proofs.DatasetLemmas.{demanding_ends, demanding_goes, demanding_stops}
use Rattle.esto_data.proofs.datasets.demand_files.Goals as goal

pub demand_file-requires : goal.demand_file-requires
demand_file-requires c =
    c.requires _ (number_inside c.args.numbers.now c.items-number-items.result.now c.numbers.number-index c.items-number-items.ensures c.numbers-test.true)

pub returns-in_err-demand_file : goal.returns-in_err-demand_file
returns-in_err-demand_file c =
    let items = c.items-number-items.result.now in
    let below : c.numbers.number-index < length c.args.numbers.now = omega (arith, c.numbers-test.true, ap length c.items-number-items.ensures) in
    at_exit _ _ c.from_residual.result c.from_residual.ensures.1
    (demanding_stops c.args.datasets.now c.args.numbers.now c.numbers.number-index c.numbers.invariant (get_or items c.numbers.number-index 0) below
    (number_read c.args.numbers.now items c.numbers.number-index c.items-number-items.ensures c.numbers-test.true) c.in_err-demand_file.ensures)

pub numbers-preserved : goal.numbers-preserved
numbers-preserved c =
    let items = c.items-number-items.result.now in
    let below : c.numbers.number-index < length c.args.numbers.now = omega (arith, c.numbers-test.true, ap length c.items-number-items.ensures) in
    demanding_goes c.args.datasets.now c.args.numbers.now c.numbers.number-index c.numbers.invariant (get_or items c.numbers.number-index 0) below
    (number_read c.args.numbers.now items c.numbers.number-index c.items-number-items.ensures c.numbers-test.true) c.in_ok-demand_file.ensures

pub returns : goal.returns
returns c =
    let le : length c.args.numbers.now ≤ c.numbers.number-index = omega (arith, c.numbers-test.false, ap length c.items-number-items.ensures) in
    demanding_ends c.args.datasets.now c.args.numbers.now c.numbers.number-index c.numbers.invariant le
