use Rattle.std.proofs.Common.{◌==◌, arith}
use Rattle.std.proofs.lemmas.List.Splits.{length-slice_split}
use Rattle.esto_stores.specs.Keys.{tab}
use Rattle.esto_stores.proofs.coded_keys.count_cells.Goals as goal

pub bytes-init : goal.bytes-init
bytes-init c =
    let long = length-slice_split (λ b. b == tab) c.args.line.now in
    (omega arith, omega (arith, long))
