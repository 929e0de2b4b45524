use Rattle.std.proofs.Common.{◌<◌, All, subst}
use Rattle.esto_part_cases.proofs.BodyLemmas.{atoms-over, atoms-flat, atoms-named}
use Rattle.esto_part_cases.proofs.making.denial_made.Goals as goal

pub make_denial-requires-clause-relations : goal.make_denial-requires-clause-relations
make_denial-requires-clause-relations c =
    subst (λ count. All (λ atom. atom.relation < count) c.in_ok-body.body) c.len.ensures.value (atoms-over _ 100 _ c.in_ok-body.ensures.fit)

pub make_denial-requires-clause-flat_body : goal.make_denial-requires-clause-flat_body
make_denial-requires-clause-flat_body c = atoms-flat _ 100 _ c.in_ok-body.ensures.fit

pub make_denial-requires-clause-named : goal.make_denial-requires-clause-named
make_denial-requires-clause-named c = atoms-named _ 100 _ c.in_ok-body.ensures.fit _ c.in_ok-names.ensures
