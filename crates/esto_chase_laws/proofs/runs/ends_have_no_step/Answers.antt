use Rattle.esto_chase_laws.proofs.NextLemmas.{end_stops, met_has_no_match}
use Rattle.esto_chase_laws.proofs.runs.ends_have_no_step.Goals as goal

pub returns-clause-step : goal.returns-clause-step
returns-clause-step c rules are_rules now next step ends is_step = end_stops rules are_rules now ends step next is_step

pub returns-clause-finished : goal.returns-clause-finished
returns-clause-finished c rules now finished rule inside m places active = met_has_no_match rule now.body m places (finished rule inside) active
