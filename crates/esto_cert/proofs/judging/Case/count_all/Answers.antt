use Rattle.std.proofs.Common.{arith}
use Rattle.std.proofs.lemmas.List.{length-map}
use Rattle.esto_constraint.specs.Constraints.{rule_of}
use Rattle.esto_cert.proofs.judging.Case.count_all.Goals as goal

pub returns : goal.returns
returns c = record {
  claims_few = c.count.ensures.bound;
  rules_few = omega (arith, length-map c.args.self.now.rules.now rule_of, c.count-2.ensures.bound);
  atoms_few = λ fact inside. omega (arith, (c.requires fact inside).0, c.count-4.ensures, c.count-4.type_inv);
  places_few = λ fact inside. omega (arith, (c.requires fact inside).1, c.count-3.ensures.bound);
}
