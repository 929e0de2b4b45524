use Rattle.std.proofs.Common.{◌≡◌, ℕ, List, [], get_or, length}
use Rattle.esto_columns.specs.Indexed.{AreChains, bucket_of}
use Rattle.esto_steps.specs.Joined.{IsFollowerAt, IsKept}
use Rattle.esto_steps.specs.Paired.{gained_rows}
use Rattle.esto_steps.proofs.IndexLemmas.{Walked}
use Rattle.esto_steps.proofs.join.push_followers.Given as goal

abbrev pub invariant-places : goal.invariant-places
invariant-places l =
    ((buckets : List ℕ) → AreChains l.index buckets
    → Walked (λ place. IsKept l.join.kept.now (IsFollowerAt l.join.get.now (get_or l.so_far.rows l.at []) l.rows.rows place)) buckets
    (bucket_of (length l.index.last) l.key) l.next (gained_rows l.join.kept.now l.so_far l.rows l.initial.into)
    (gained_rows l.join.kept.now l.so_far l.rows l.into))
    × (l.into.own.arity ≡ l.initial.into.own.arity)

abbrev pub decreases-places : goal.decreases-places
decreases-places l = l.next
