use Rattle.std.proofs.Common.{ap, ◌∙◌}
use Rattle.esto_steps.specs.Reads.{read_cells}
use Rattle.esto_steps.proofs.reads.joined_wide.Goals as goal

pub joined_read-requires-clause-cells : goal.joined_read-requires-clause-cells
joined_read-requires-clause-cells c = c.in_ok-cells.ensures
    ∙ ap (λ width. read_cells width c.args.join.now.get.now c.args.join.now.kept.now) c.arity.ensures.value
