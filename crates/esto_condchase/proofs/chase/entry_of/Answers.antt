use Rattle.std.proofs.Common.{◌<◌, [], refl, ap}
use Rattle.std.proofs.lemmas.List.Elements.{All-cons, All-nil}
use Rattle.esto_chase_laws.specs.declared.entry.Claim.TheVariants.{Fact as Stated}
use Rattle.esto_condchase.proofs.LoopLemmas.{one_number}
use Rattle.esto_condchase.proofs.chase.entry_of.Goals as goal

pub of-requires : goal.of-requires
of-requires c = All-cons (λ number. number < c.args.atoms) c.args.fact.now.atom [] c.requires (All-nil _)

pub returns-clause-is : goal.returns-clause-is
returns-clause-is c = record {
  states = ap Stated c.in_ok-own.ensures;
  only = one_number c.in_ok-product.product c.args.fact.now.atom c.in_ok-product.ensures.has;
  expanded = refl;
}
