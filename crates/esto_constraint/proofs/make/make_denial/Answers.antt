use Rattle.std.proofs.Common.{◌<◌, List, length, refl, sym, subst}
use Rattle.std.specs.List.{All}
use Rattle.esto_term.specs.declared.term.Term.{Term}
use Rattle.esto_semantics.specs.declared.fact.Fact.{Fact}
use Rattle.esto_query.specs.Schemas.{arities_of}
use Rattle.esto_constraint.specs.Making.{IsBodyFault}
use Rattle.esto_constraint.proofs.make.make_denial.Goals as goal

pub body_fault-requires : goal.body_fault-requires
body_fault-requires c =
    subst (λ (body : List (Fact Term)). All (λ atom. atom.relation < length c.args.schema.now) body) (sym c.items.ensures) c.requires.relations

pub invariant_of-result : goal.invariant_of-result
invariant_of-result c = record {
  sound = ∣ record {
    rule = record { has_body = c.requires.has_body; flat_body = c.requires.flat_body };
    named = c.requires.named;
  } ∣₁;
}

pub returns-in-Some : goal.returns-in-Some
returns-in-Some c =
    subst (λ (body : List (Fact Term)). IsBodyFault (arities_of c.args.schema.now) body c.in-Some.fault) c.items.ensures c.in-Some.ensures

pub returns-in-None : goal.returns-in-None
returns-in-None c = let fits = rw c.items.ensures at c.in-None.ensures in (fits.0, fits.1, refl, refl)
