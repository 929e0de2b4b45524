use Rattle.esto_chase_laws.specs.Runs.{start_of}
use Rattle.esto_constraint.proofs.RuleLemmas.{are_rules}
use Rattle.esto_reasoning.proofs.AlikeLemmas.{compared_alike, minimised_alike}
use Rattle.esto_reasoning.proofs.laws.reasoned_texts_are_one.Goals as goal

pub returns-clause-compared : goal.returns-clause-compared
returns-clause-compared c catalogue other left same_left right same_right =
    compared_alike c.what_is_told_is_determined.ensures.one c.renamed_plans_are_one.ensures.one catalogue other left same_left right same_right
    (are_rules c.rules_are_sound.ensures.rules catalogue.rules)

pub returns-clause-minimised : goal.returns-clause-minimised
returns-clause-minimised c catalogue other query same =
    minimised_alike c.minimal_parts_are_determined.ensures.one c.runs_have_one_outcome.ensures.clash
    (λ rules query end are_rules is_query finishes. (c.finished_runs_decide.ensures.alike rules query).1
    (c.finished_runs_decide.ensures.satisfiable rules (start_of query) are_rules (c.queries_have_starts.ensures.start query is_query) finishes.trace end
    finishes.run finishes.finished)) c.plans_tell_satisfiable_queries.ensures.clash c.equivalent_parts_have_minimal_sets.ensures.one catalogue other query same
    (are_rules c.rules_are_sound.ensures.rules catalogue.rules) (c.queries_are_sound.ensures query).query
