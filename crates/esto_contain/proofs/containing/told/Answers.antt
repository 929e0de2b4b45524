use Rattle.esto_query.specs.Making.{query_of}
use Rattle.esto_constraint.specs.Constraints.{rules_of}
use Rattle.esto_constraint.proofs.RuleLemmas.{are_rules}
use Rattle.esto_contain.proofs.ToldLemmas.{unsatisfiable_contained}
use Rattle.esto_contain.proofs.containing.told.Goals as goal

pub returns-in-Left : goal.returns-in-Left
returns-in-Left c =
    c.in_ok-answer-in-Left.ensures (rules_of c.args.catalogue.now.rules) (query_of c.args.left.now)
    (are_rules c.rules_are_sound.ensures.rules c.args.catalogue.now.rules) (c.queries_are_sound.ensures c.args.left.now).query
    (rw c.in-Left.is at c.in_ok-outcome.ensures)

pub returns : goal.returns
returns c =
    let rules = rules_of c.args.catalogue.now.rules in
    let left = query_of c.args.left.now in
    unsatisfiable_contained rules left (query_of c.args.right.now)
    (c.clashed_queries_are_unsatisfiable.ensures rules left c.in-Right.field-0
    (are_rules c.rules_are_sound.ensures.rules c.args.catalogue.now.rules) (c.queries_are_sound.ensures c.args.left.now).query
    (rw c.in-Right.is at c.in_ok-outcome.ensures))
