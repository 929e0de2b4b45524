use Rattle.esto_constraint.specs.Constraints.{rules_of}
use Rattle.esto_instance.specs.Instances.{state_of}
use Rattle.esto_query.specs.Making.{query_of}
use Rattle.esto_constraint.proofs.RuleLemmas.{are_rules}
use Rattle.esto_contain.proofs.MinimisedLemmas.{end_satisfies}
use Rattle.esto_contain.proofs.minimising.minimise.Goals as goal

pub minimised_at-requires : goal.minimised_at-requires
minimised_at-requires c = rw c.in-Left.is at c.in_ok-outcome.ensures

pub returns-in_ok-minimal-in-Left-clause-satisfiable : goal.returns-in_ok-minimal-in-Left-clause-satisfiable
returns-in_ok-minimal-in-Left-clause-satisfiable c =
    end_satisfies c.states_are_universal.ensures.query c.universal_instances_satisfy_queries.ensures.under_rules (rules_of c.args.catalogue.now.rules)
    (query_of c.args.query.now) (state_of c.in-Left.end)
    (are_rules c.rules_are_sound.ensures.rules c.args.catalogue.now.rules) (c.queries_are_sound.ensures c.args.query.now).query
    (rw c.in-Left.is at c.in_ok-outcome.ensures)

pub returns-in-Right-clause-run : goal.returns-in-Right-clause-run
returns-in-Right-clause-run c = rw c.in-Right.is at c.in_ok-outcome.ensures

pub returns-in-Right-clause-satisfiable : goal.returns-in-Right-clause-satisfiable
returns-in-Right-clause-satisfiable c =
    c.clashed_queries_are_unsatisfiable.ensures (rules_of c.args.catalogue.now.rules) (query_of c.args.query.now) c.in-Right.clash
    (are_rules c.rules_are_sound.ensures.rules c.args.catalogue.now.rules) (c.queries_are_sound.ensures c.args.query.now).query
    (rw c.in-Right.is at c.in_ok-outcome.ensures)
