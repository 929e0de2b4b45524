use Rattle.std.proofs.Common.{ℕ, List, length}
use Rattle.esto_columns.specs.Indexed.{LeadsOn, LeadBefore}
use Rattle.esto_columns.proofs.IndexLemmas.{Collected}
use Rattle.esto_columns.proofs.index.chain_of.Given as goal

abbrev pub invariant-places : goal.invariant-places
invariant-places l = (buckets : List ℕ) (bucket : ℕ) → LeadBefore l.before buckets → LeadsOn buckets bucket (length buckets) l.last
    → Collected buckets bucket l.next l.places.items

abbrev pub decreases-places : goal.decreases-places
decreases-places l = l.next
