use Rattle.std.proofs.Common.{◌<◌, List, [], length, Err, refl, sym, subst}
use Rattle.std.specs.List.{All}
use Rattle.esto_term.specs.declared.term.Term.{Term}
use Rattle.esto_semantics.specs.declared.fact.Fact.{Fact}
use Rattle.esto_query.specs.Schemas.{arities_of}
use Rattle.esto_constraint.specs.Making.{MakesTuple}
use Rattle.esto_constraint.proofs.MakingLemmas.{tuple_refused}
use Rattle.esto_constraint.proofs.make.make_tuple_rule.Goals as goal

pub tuple_fault-requires-clause-body_relations : goal.tuple_fault-requires-clause-body_relations
tuple_fault-requires-clause-body_relations c =
    subst (λ (body : List (Fact Term)). All (λ atom. atom.relation < length c.args.schema.now) body) (sym c.items.ensures) c.requires.body_relations

pub tuple_fault-requires-clause-head_relations : goal.tuple_fault-requires-clause-head_relations
tuple_fault-requires-clause-head_relations c =
    subst (λ (head : List (Fact Term)). All (λ atom. atom.relation < length c.args.schema.now) head) (sym c.items-2.ensures) c.requires.head_relations

pub returns-in-Some : goal.returns-in-Some
returns-in-Some c =
    tuple_refused (arities_of c.args.schema.now) c.args.body c.args.head c.args.names c.in-Some.fault
    (subst (λ (head : List (Fact Term)). MakesTuple (arities_of c.args.schema.now) c.args.body head [] (Err c.in-Some.fault)) c.items-2.ensures
    (subst (λ (body : List (Fact Term)). MakesTuple (arities_of c.args.schema.now) body c.items-2.result.now [] (Err c.in-Some.fault)) c.items.ensures
    c.in-Some.ensures))

pub returns-in-None : goal.returns-in-None
returns-in-None c =
    let fits = rw (c.items.ensures, c.items-2.ensures) at c.in-None.ensures in
    (fits.0, fits.1, fits.2, refl, refl, refl)
