use Rattle.std.proofs.Common.{length, ◌<◌}
use Rattle.esto_text.specs.Grammar.{IsPath}
use Rattle.esto_text.specs.Machine.{Takes}
use Rattle.esto_text.proofs.paths.put_path.Given as goal

abbrev pub invariant-steps : goal.invariant-steps
invariant-steps l = record { taken : Takes (IsPath l.path) l.tokens l.rest; shorter : length l.rest < length l.tokens }

abbrev pub decreases-steps : goal.decreases-steps
decreases-steps l = length l.rest
