use Rattle.std.proofs.Common.{◌∙◌}
use Rattle.esto_steps.proofs.gained.Gained.move_stretch.Goals as goal

pub pairs-preserved : goal.pairs-preserved
pairs-preserved c = (
  λ row. (
    λ has. (c.pairs.invariant.0 row).0 ((c.in_ok-move_last.ensures.rows row).0 has),
    λ has. (c.in_ok-move_last.ensures.rows row).1 ((c.pairs.invariant.0 row).1 has),
  ),
  c.in_ok-move_last.ensures.arity ∙ c.pairs.invariant.1,
)
