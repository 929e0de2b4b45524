use Rattle.std.proofs.Common.{ltb, ℕ, rules}
use Rattle.std.proofs.lemmas.List.Sorted.{IsPartitionPoint-from_clause, IsPartitionedBy-ltb}
use Rattle.esto_table.proofs.PlaceLemmas.{from_is}
use Rattle.esto_table.proofs.places.places_from.Goals as goal

pub returns : goal.returns
returns c =
    let point = IsPartitionPoint-from_clause (λ (place : ℕ). ltb place c.args.least) c.args.places.now c.partition_point-low.result
    c.partition_point-low.ensures.partitioned (IsPartitionedBy-ltb (λ (place : ℕ). place) c.args.places.now c.args.least c.requires)
    (λ a r f' k. search rules) in
    from_is c.args.places.now c.args.least c.partition_point-low.result c.requires point
