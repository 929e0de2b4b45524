use Rattle.std.proofs.Common.{◌<◌, length}
use Rattle.esto_derive.proofs.ChainLemmas.{LeadsFrom}
use Rattle.esto_derive.proofs.chains.chain_to.Given as goal

abbrev pub invariant-steps : goal.invariant-steps
invariant-steps l = record { there : l.at < length l.reached; leads : LeadsFrom l.reached l.at l.place l.chain }

abbrev pub decreases-steps : goal.decreases-steps
decreases-steps l = l.at
