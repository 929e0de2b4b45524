use Rattle.esto_query.specs.Making.{query_of}
use Rattle.esto_constraint.specs.Constraints.{rules_of}
use Rattle.esto_constraint.proofs.RuleLemmas.{are_rules}
use Rattle.esto_contain.proofs.ToldLemmas.{shown_where_no}
use Rattle.esto_contain.proofs.containing.contained.Goals as goal

pub returns-clause-shown : goal.returns-clause-shown
returns-clause-shown c =
    shown_where_no c.what_is_told_is_determined.ensures.shown (rules_of c.args.catalogue.now.rules) (query_of c.args.left.now) (query_of c.args.right.now)
    c.in_ok-answer.answer (are_rules c.rules_are_sound.ensures.rules c.args.catalogue.now.rules)
    (c.queries_are_sound.ensures c.args.left.now).query c.in_ok-answer.ensures
