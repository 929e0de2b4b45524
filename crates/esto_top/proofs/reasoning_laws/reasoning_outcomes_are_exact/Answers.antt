use Rattle.esto_chase_laws.specs.Runs.{start_of}
use Rattle.esto_constraint.specs.Constraints.{rules_of}
use Rattle.esto_query.specs.Making.{query_of}
use Rattle.esto_query.specs.Schemas.{names_of}
use Rattle.esto_constraint.proofs.RuleLemmas.{are_rules}
use Rattle.esto_reasoning.specs.Exact.{IsExactContains, IsExactMinimise}
use Rattle.esto_reasoning.proofs.ExactLemmas.{compares_exactly, minimises_exactly}
use Rattle.esto_top.proofs.ReasoningLeadLemmas.{contains_says, minimise_says}
use Rattle.esto_top.proofs.reasoning_laws.reasoning_outcomes_are_exact.Goals as goal

pub returns-clause-contains : goal.returns-clause-contains
returns-clause-contains c files catalogue_name left_name right_name catalogue left right opens left_opens right_opens =
    contains_says c.openings_are_one.ensures.catalogues c.openings_are_one.ensures.queries files catalogue_name catalogue opens
    (IsExactContains catalogue left right) left_name right_name left right left_opens right_opens
    (compares_exactly c.what_is_told_is_determined.ensures.shown (rules_of catalogue.rules) (names_of catalogue.schema) left.names (query_of left)
    (query_of right) (are_rules c.rules_are_sound.ensures.rules catalogue.rules) (c.queries_are_sound.ensures left).query)

pub returns-clause-minimise : goal.returns-clause-minimise
returns-clause-minimise c files catalogue_name query_name catalogue query opens query_opens =
    minimise_says c.openings_are_one.ensures.catalogues c.openings_are_one.ensures.queries files catalogue_name catalogue opens
    (IsExactMinimise catalogue query) query_name query query_opens
    (minimises_exactly c.runs_have_one_outcome.ensures.clash c.plans_tell_satisfiable_queries.ensures.clash
    (λ rules query end are_rules is_query finishes. (c.finished_runs_decide.ensures.alike rules query).1
    (c.finished_runs_decide.ensures.satisfiable rules (start_of query) are_rules (c.queries_have_starts.ensures.start query is_query) finishes.trace end
    finishes.run finishes.finished))
    (rules_of catalogue.rules) (names_of catalogue.schema) query.names (query_of query) (are_rules c.rules_are_sound.ensures.rules catalogue.rules)
    (c.queries_are_sound.ensures query).query)
