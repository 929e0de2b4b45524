use Rattle.std.proofs.Common.{List, Bool}
use Rattle.esto_term.specs.declared.term.Term.{Term}
use Rattle.esto_known.specs.declared.group.Group.{Group}
use Rattle.esto_condchase.specs.Products.{AreReachedOf, Reach, StepsWith}
use Rattle.esto_condchase.proofs.SumLemmas.{GathersOver}
use Rattle.esto_condchase.proofs.reached.steps_from.Given as goal

abbrev pub invariant-groups : goal.invariant-groups
invariant-groups l = record {
  counted : AreReachedOf l.count l.later.items;
  gathers : GathersOver (λ (key : List Term × List Bool) (group : Group). StepsWith l.groups l.from l.these l.atom l.one group key.0 key.1) l.groups
      (λ key. Reach l.initial.later.items key.0 key.1) l.group-index (λ key. Reach l.later.items key.0 key.1);
}
