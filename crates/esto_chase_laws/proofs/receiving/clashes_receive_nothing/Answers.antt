use Rattle.esto_chase_laws.proofs.EndLemmas.{receives_nothing}
use Rattle.esto_chase_laws.proofs.receiving.clashes_receive_nothing.Goals as goal

pub returns : goal.returns
returns c rules start are_rules is_start trace now run clash clashed = receives_nothing rules are_rules start is_start trace now run clash clashed
