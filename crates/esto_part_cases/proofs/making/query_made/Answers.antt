use Rattle.std.proofs.Common.{◌<◌, All, subst}
use Rattle.esto_part_cases.proofs.BodyLemmas.{atoms-over, atoms-flat, atoms-named, fit-flat}
use Rattle.esto_part_cases.proofs.making.query_made.Goals as goal

pub make_query-requires-clause-relations : goal.make_query-requires-clause-relations
make_query-requires-clause-relations c =
    subst (λ count. All (λ atom. atom.relation < count) c.in_ok-body.body) c.len.ensures.value (atoms-over _ 100 _ c.in_ok-body.ensures.fit)

pub make_query-requires-clause-flat_head : goal.make_query-requires-clause-flat_head
make_query-requires-clause-flat_head c = λ term inside. fit-flat 100 term (c.in_ok-head.ensures.fit term inside)

pub make_query-requires-clause-flat_body : goal.make_query-requires-clause-flat_body
make_query-requires-clause-flat_body c = atoms-flat _ 100 _ c.in_ok-body.ensures.fit

pub make_query-requires-clause-named : goal.make_query-requires-clause-named
make_query-requires-clause-named c = atoms-named _ 100 _ c.in_ok-body.ensures.fit _ c.in_ok-names.ensures
