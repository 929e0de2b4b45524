use Rattle.esto_chase_laws.proofs.EndLemmas.{is_received}
use Rattle.esto_chase_laws.proofs.receiving.states_are_received.Goals as goal

pub returns : goal.returns
returns c rules start are_rules is_start trace now run = is_received rules are_rules start is_start trace now run
