use Rattle.esto_chase_laws.specs.Runs.{start_of}
use Rattle.esto_chase_laws.proofs.EndLemmas.{is_universal, start_of-IsStart, universal_for_query}
use Rattle.esto_chase_laws.proofs.receiving.states_are_universal.Goals as goal

pub returns-clause-start : goal.returns-clause-start
returns-clause-start c rules start are_rules is_start trace now run = is_universal rules are_rules start is_start trace now run

pub returns-clause-query : goal.returns-clause-query
returns-clause-query c rules query are_rules is_query trace now run =
    universal_for_query rules query now (is_universal rules are_rules (start_of query) (start_of-IsStart query is_query) trace now run)
