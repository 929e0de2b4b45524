use Rattle.std.proofs.Common.{sym}
use Rattle.esto_chase_laws.proofs.StateLemmas.{ran}
use Rattle.esto_chase_laws.proofs.runs.heads_go_along.Goals as goal

pub returns-clause-heads : goal.returns-clause-heads
returns-clause-heads c rules start are_rules is_start trace now run = sym (ran rules start are_rules is_start.flat_body trace now run).kept.heads

pub returns-clause-facts : goal.returns-clause-facts
returns-clause-facts c rules start are_rules is_start trace now run = (ran rules start are_rules is_start.flat_body trace now run).kept.reached
