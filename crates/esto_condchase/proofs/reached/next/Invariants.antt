use Rattle.std.proofs.Common.{List, Bool}
use Rattle.esto_term.specs.declared.term.Term.{Term}
use Rattle.esto_condchase.specs.declared.reached.Reached.{Reached}
use Rattle.esto_condchase.specs.Products.{AreReachedOf, Reach, StepsFrom}
use Rattle.esto_condchase.proofs.SumLemmas.{Gathers}
use Rattle.esto_condchase.proofs.reached.next.Given as goal

abbrev pub invariant-ones : goal.invariant-ones
invariant-ones l = record {
  counted : AreReachedOf l.count l.later.items;
  gathers : Gathers (λ (key : List Term × List Bool) (one : Reached). StepsFrom l.groups l.from l.these l.atom one key.0 key.1) l.ones l.one-index
      (λ key. Reach l.later.items key.0 key.1);
}
