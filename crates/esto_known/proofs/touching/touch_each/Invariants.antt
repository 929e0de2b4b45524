use Rattle.std.proofs.Common.{◌≡◌}
use Rattle.esto_known.proofs.TouchLemmas.{TouchSoFar}
use Rattle.esto_known.proofs.touching.touch_each.Given as goal

abbrev pub invariant-terms : goal.invariant-terms
invariant-terms l = record {
  count : l.sets.count ≡ l.count;
  touch : TouchSoFar l.groups l.terms l.others l.initial.sets.sets l.place l.sets.sets;
}
