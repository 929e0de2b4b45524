use Rattle.std.proofs.Common.{◌<◌, All, subst}
use Rattle.esto_part_cases.proofs.BodyLemmas.{atoms-over, atoms-flat, atoms-named, fit-flat}
use Rattle.esto_part_cases.proofs.making.equal_rule_made.Goals as goal

pub make_equal_rule-requires-clause-relations : goal.make_equal_rule-requires-clause-relations
make_equal_rule-requires-clause-relations c =
    subst (λ count. All (λ atom. atom.relation < count) c.in_ok-body.body) c.len.ensures.value (atoms-over _ 100 _ c.in_ok-body.ensures.fit)

pub make_equal_rule-requires-clause-flat_body : goal.make_equal_rule-requires-clause-flat_body
make_equal_rule-requires-clause-flat_body c = atoms-flat _ 100 _ c.in_ok-body.ensures.fit

pub make_equal_rule-requires-clause-flat_left : goal.make_equal_rule-requires-clause-flat_left
make_equal_rule-requires-clause-flat_left c = fit-flat 100 _ c.in_ok-left.ensures

pub make_equal_rule-requires-clause-flat_right : goal.make_equal_rule-requires-clause-flat_right
make_equal_rule-requires-clause-flat_right c = fit-flat 100 _ c.in_ok-right.ensures

pub make_equal_rule-requires-clause-named : goal.make_equal_rule-requires-clause-named
make_equal_rule-requires-clause-named c = atoms-named _ 100 _ c.in_ok-body.ensures.fit _ c.in_ok-names.ensures
