use Rattle.std.proofs.Common.{◌==◌, ◌+◌, [], length}
use Rattle.std.specs.List.{slice_split}
use Rattle.std.specs.Option.{option_map_or}
use Rattle.esto_stores.specs.Keys.{tab}
use Rattle.esto_stores.proofs.CodedLemmas.{HasCells}
use Rattle.esto_stores.proofs.coded_keys.code_line.Given as goal

abbrev pub invariant-cells : goal.invariant-cells
invariant-cells l = HasCells (slice_split (λ b. b == tab) l.line) (option_map_or (λ rest. slice_split (λ b. b == tab) rest.now) l.rest [])
    l.initial.codes l.codes l.row

abbrev pub decreases-cells : goal.decreases-cells
decreases-cells l = option_map_or (λ rest. length rest.now + 1) l.rest 0
