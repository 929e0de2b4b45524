use Rattle.std.proofs.Common.{Bor, Option, List, ℕ, [], ◌==◌, ◌∙◌, ap}
use Rattle.std.specs.List.{slice_split}
use Rattle.std.specs.Option.{option_map_or}
use Rattle.esto_stores.specs.Keys.{tab}
use Rattle.esto_stores.specs.Rows.{Row}
use Rattle.esto_stores.proofs.CodedLemmas.{cells_go}
use Rattle.esto_stores.proofs.coded_keys.code_line.Goals as goal

left : Option (Bor (List ℕ)) → Row
left rest = option_map_or (λ line. slice_split (λ b. b == tab) line.now) rest []

pub cells-preserved : goal.cells-preserved
unfolding left
cells-preserved c =
    cells_go (slice_split (λ b. b == tab) c.args.line.now) (left c.cells.rest) (left c.cut_cell.result.1) c.args.codes.now c.cells.codes c.push_code.new.codes
    c.cells.row c.push_code.new.row c.cut_cell.result.0.now c.cells.invariant (ap left c.in-Some.is ∙ c.cut_cell.ensures.cells)
    c.in_ok-push_code.ensures.put c.push_code.ensures.grown
