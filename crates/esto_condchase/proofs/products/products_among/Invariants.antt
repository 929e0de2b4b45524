use Rattle.std.proofs.Common.{List}
use Rattle.esto_known.specs.Groups.{AreGroups}
use Rattle.esto_chase_laws.specs.WorldSteps.{AreJoined}
use Rattle.esto_chase_laws.specs.declared.entry.Entry.{Entry}
use Rattle.esto_condchase.specs.Products.{AreReachedOf}
use Rattle.esto_condchase.proofs.ReachLemmas.{LedSoFar}
use Rattle.esto_condchase.proofs.products.products_among.Given as goal

abbrev pub invariant-atoms : goal.invariant-atoms
invariant-atoms l = record {
  led : (entries : List Entry) → AreGroups entries l.groups → AreJoined entries entries → LedSoFar entries l.head l.body l.targets l.place l.from l.ones;
  counted : AreReachedOf l.count l.ones;
}
