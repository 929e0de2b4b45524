use Rattle.esto_chase_laws.proofs.DecidedLemmas.{rule_is_decided, no_match_is_finished}
use Rattle.esto_chase_laws.proofs.runs.rules_are_decided.Goals as goal

pub returns-clause-decided : goal.returns-clause-decided
returns-clause-decided c = rule_is_decided

pub returns-clause-finished : goal.returns-clause-finished
returns-clause-finished c = no_match_is_finished
