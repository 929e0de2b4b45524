use Rattle.std.proofs.Common.{[], suc, arith}
use Rattle.esto_chase_laws.specs.Bounds.{most_steps}
use Rattle.esto_chase_laws.specs.Runs.{begun}
use Rattle.esto_chase_laws.proofs.DecidedLemmas.{rule_is_decided}
use Rattle.esto_chase_laws.proofs.GoingLemmas.{goes_on}
use Rattle.esto_chase_laws.proofs.RunLemmas.{reach}
use Rattle.esto_chase_laws.proofs.StateLemmas.{run_is_bounded}
use Rattle.esto_chase_laws.proofs.runs.runs_reach_an_end.Goals as goal

pub returns : goal.returns
returns c rules start rank depth are_rules is_start rise most small =
    reach rules are_rules start (most_steps rules start depth)
    (λ trace now run. run_is_bounded rules start are_rules is_start.flat_body rank depth rise most small trace now run)
    (λ trace now run. goes_on rules now (λ rule inside. rule_is_decided now.body rule (are_rules rule inside)))
    (suc (most_steps rules start depth)) [] start begun (omega arith)
