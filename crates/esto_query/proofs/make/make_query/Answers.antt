use Rattle.std.proofs.Common.{List, Err, refl, subst}
use Rattle.esto_term.specs.declared.term.Term.{Term}
use Rattle.esto_semantics.specs.declared.fact.Fact.{Fact}
use Rattle.esto_query.specs.Making.{MakesQuery}
use Rattle.esto_query.specs.Schemas.{arities_of}
use Rattle.esto_query.proofs.make.make_query.Goals as goal

pub fault_of-requires-clause-relations : goal.fault_of-requires-clause-relations
fault_of-requires-clause-relations c = rw c.items-2.ensures c.requires.relations

pub fault_of-requires-clause-flat : goal.fault_of-requires-clause-flat
fault_of-requires-clause-flat c = rw c.items.ensures c.requires.flat_head

pub invariant_of-result : goal.invariant_of-result
invariant_of-result c =
    let made = rw (c.items.ensures, c.items-2.ensures) at c.in_default.ensures in
    record {
      sound = ∣ record {
        query = record {
          has_head = c.requires.has_head;
          has_body = c.requires.has_body;
          flat_head = c.requires.flat_head;
          flat_body = c.requires.flat_body;
          safe = made.2;
        };
        named = c.requires.named;
      } ∣₁;
    }

pub returns-in-Some : goal.returns-in-Some
returns-in-Some c =
    let arities = arities_of c.args.schema.now in
    subst (λ (head : List Term). MakesQuery arities head c.args.body c.args.names (Err c.in-Some.fault)) c.items.ensures
    (subst (λ (body : List (Fact Term)). MakesQuery arities c.items.result.now body c.args.names (Err c.in-Some.fault)) c.items-2.ensures
    (c.in-Some.ensures c.args.names))

pub returns : goal.returns
returns c =
    let made = rw (c.items.ensures, c.items-2.ensures) at c.in_default.ensures in
    (made.0, made.1, made.2, refl, refl, refl)
