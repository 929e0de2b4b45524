use Rattle.esto_chase_laws.proofs.StateLemmas.{run_is_bounded}
use Rattle.esto_chase_laws.proofs.bounds.runs_end.Goals as goal

pub returns : goal.returns
returns c rules start rank depth are_rules is_start rise most small trace now run =
    run_is_bounded rules start are_rules is_start.flat_body rank depth rise most small trace now run
