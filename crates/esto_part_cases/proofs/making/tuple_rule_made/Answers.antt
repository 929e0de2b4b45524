use Rattle.std.proofs.Common.{◌<◌, All, subst}
use Rattle.esto_part_cases.proofs.BodyLemmas.{atoms-over, atoms-flat, atoms-named}
use Rattle.esto_part_cases.proofs.making.tuple_rule_made.Goals as goal

pub make_tuple_rule-requires-clause-body_relations : goal.make_tuple_rule-requires-clause-body_relations
make_tuple_rule-requires-clause-body_relations c =
    subst (λ count. All (λ atom. atom.relation < count) c.in_ok-left.left) c.len-relations.ensures.value (atoms-over _ 100 _ c.in_ok-left.ensures.fit)

pub make_tuple_rule-requires-clause-head_relations : goal.make_tuple_rule-requires-clause-head_relations
make_tuple_rule-requires-clause-head_relations c =
    subst (λ count. All (λ atom. atom.relation < count) c.in_ok-right.right) c.len-relations.ensures.value (atoms-over _ 100 _ c.in_ok-right.ensures.fit)

pub make_tuple_rule-requires-clause-flat_body : goal.make_tuple_rule-requires-clause-flat_body
make_tuple_rule-requires-clause-flat_body c = atoms-flat _ 100 _ c.in_ok-left.ensures.fit

pub make_tuple_rule-requires-clause-flat_head : goal.make_tuple_rule-requires-clause-flat_head
make_tuple_rule-requires-clause-flat_head c = atoms-flat _ 100 _ c.in_ok-right.ensures.fit

pub make_tuple_rule-requires-clause-body_named : goal.make_tuple_rule-requires-clause-body_named
make_tuple_rule-requires-clause-body_named c = atoms-named _ 100 _ c.in_ok-left.ensures.fit _ c.in_ok-names.ensures

pub make_tuple_rule-requires-clause-head_named : goal.make_tuple_rule-requires-clause-head_named
make_tuple_rule-requires-clause-head_named c = atoms-named _ 100 _ c.in_ok-right.ensures.fit _ c.in_ok-names.ensures
