-- Two graphs with the same edges have the same walks, ranks and cycles.
use Rattle.std.proofs.Common.{◌↔◌, ℕ, List, [], ◌∷◌}
use Rattle.esto_constraint.specs.Graphs.{IsWithin, IsWalk, HasNoCycle, IsLeastCycleAt, IsLeastCycle, IsRank, AreRanks}

module _ (Edge Other : ℕ → ℕ → Type 0) where
  -- each edge of the first graph is one of the second
  abbrev Within : Type 0
  Within = (from to : ℕ) → Edge from to → Other from to

  IsWalk-other : Within → (from : ℕ) (relations : List ℕ) (to : ℕ) → IsWalk Edge from relations to → IsWalk Other from relations to
  IsWalk-other within from [] to same = same
  IsWalk-other within from (here ∷ rest) to (next, is, edge, walk) = (next, is, within from next edge, IsWalk-other within next rest to walk)

module _ (Edge Other : ℕ → ℕ → Type 0) (same : (from to : ℕ) → Edge from to ↔ Other from to) where
  onto : (from : ℕ) (relations : List ℕ) (to : ℕ) → IsWalk Edge from relations to → IsWalk Other from relations to
  onto = IsWalk-other Edge Other (λ from to. (same from to).0)

  back : (from : ℕ) (relations : List ℕ) (to : ℕ) → IsWalk Other from relations to → IsWalk Edge from relations to
  back = IsWalk-other Other Edge (λ from to. (same from to).1)

  pub IsWithin-same : (count : ℕ) → IsWithin count Other → IsWithin count Edge
  IsWithin-same count within from to edge = within from to ((same from to).0 edge)

  HasNoCycle-same : (start : ℕ) → HasNoCycle Edge start → HasNoCycle Other start
  HasNoCycle-same start none relations cycle = none relations (cycle.0, back start relations start cycle.1)

  IsLeastCycleAt-same : (start : ℕ) (relations : List ℕ) → IsLeastCycleAt Edge start relations → IsLeastCycleAt Other start relations
  IsLeastCycleAt-same start relations is = record {
    cycle = (is.cycle.0, onto start relations start is.cycle.1);
    shortest = λ others cycle. is.shortest others (cycle.0, back start others start cycle.1);
    least = λ others cycle long. is.least others (cycle.0, back start others start cycle.1) long;
  }

  pub IsLeastCycle-same : (relations : List ℕ) → IsLeastCycle Edge relations → IsLeastCycle Other relations
  IsLeastCycle-same relations is = record {
    start = is.start;
    here = IsLeastCycleAt-same is.start relations is.here;
    first = λ other before. HasNoCycle-same other (is.first other before);
  }

  IsRank-same : (relation rank : ℕ) → IsRank Edge relation rank → IsRank Other relation rank
  IsRank-same relation rank is = record {
    arrives = (is.arrives.0, is.arrives.1, onto is.arrives.0 is.arrives.1 relation is.arrives.2, is.arrives.3);
    most = λ from relations walk. is.most from relations (back from relations relation walk);
  }

  pub AreRanks-same : (count : ℕ) (ranks : List ℕ) → AreRanks Edge count ranks → AreRanks Other count ranks
  AreRanks-same count ranks are = record {
    for_each = are.for_each;
    exact = λ relation below. IsRank-same relation _ (are.exact relation below);
  }
