use Rattle.std.proofs.Common.{◌≡◌, List, Bool}
use Rattle.esto_term.specs.Sets.{Covers}
use Rattle.esto_condchase.proofs.SumLemmas.{Gathers}
use Rattle.esto_condchase.specs.declared.reached.Reached.{Reached}
use Rattle.esto_condchase.proofs.reached.sets_of_all.Given as goal

abbrev pub invariant-ones : goal.invariant-ones
invariant-ones l = record {
  count : l.sets.count ≡ l.count;
  gathers : Gathers (λ (set : List Bool) (one : Reached). Covers one.by.sets set) l.ones l.one-index (λ set. Covers l.sets.sets set);
}
