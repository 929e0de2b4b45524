use Rattle.std.proofs.Common.{length, Contains}
use Rattle.std.specs.Prelude.{◌↔◌}
use Rattle.esto_docmodel.specs.declared.pattern.Step.TheVariants.{Below}
use Rattle.esto_docmodel.proofs.layout.has_below.Given as goal

abbrev pub invariant-steps : goal.invariant-steps
invariant-steps l = Contains l.left Below ↔ Contains l.path Below

abbrev pub decreases-steps : goal.decreases-steps
decreases-steps l = length l.left
