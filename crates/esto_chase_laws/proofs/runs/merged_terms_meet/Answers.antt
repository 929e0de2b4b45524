use Rattle.esto_chase_laws.proofs.MergeLemmas.{merged_terms_meet}
use Rattle.esto_chase_laws.proofs.StateLemmas.{ran}
use Rattle.esto_chase_laws.proofs.runs.merged_terms_meet.Goals as goal

pub returns-clause-meet : goal.returns-clause-meet
returns-clause-meet c rules start are_rules is_start trace now run = merged_terms_meet rules start are_rules is_start.flat_body trace now run

pub returns-clause-stay : goal.returns-clause-stay
returns-clause-stay c rules start are_rules is_start trace now run = (ran rules start are_rules is_start.flat_body trace now run).kept.fixed
