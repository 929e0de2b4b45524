use Rattle.esto_semantics.proofs.ContainmentLemmas.{universal_instances_decide, universal_instances_satisfy}
use Rattle.esto_chase_laws.specs.Runs.{start_of}
use Rattle.esto_chase_laws.proofs.EndLemmas.{is_universal, start_of-IsStart, universal_for_query, satisfiable_alike}
use Rattle.esto_chase_laws.proofs.receiving.finished_runs_decide.Goals as goal

pub returns-clause-contained : goal.returns-clause-contained
returns-clause-contained c rules query right are_rules is_query trace end run finished =
    universal_instances_decide rules query end right are_rules
    (universal_for_query rules query end (is_universal rules are_rules (start_of query) (start_of-IsStart query is_query) trace end run)) finished

pub returns-clause-satisfiable : goal.returns-clause-satisfiable
returns-clause-satisfiable c rules start are_rules is_start trace end run finished =
    universal_instances_satisfy rules start end are_rules (is_universal rules are_rules start is_start trace end run) finished

pub returns-clause-alike : goal.returns-clause-alike
returns-clause-alike c = satisfiable_alike
