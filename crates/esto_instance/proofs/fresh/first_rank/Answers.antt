use Rattle.std.proofs.Common.{rules}
use Rattle.std.proofs.lemmas.List.Sorted.{IsPartitionPoint-from_clause}
use Rattle.esto_instance.proofs.OrderLemmas.{is_lesser, lesser_parted, first-there, first-past}
use Rattle.esto_instance.proofs.fresh.first_rank.Goals as goal

pub returns-in-Some : goal.returns-in-Some
returns-in-Some c =
    let index = c.args.index.now in
    let fact = c.args.fact.now in
    let first = c.partition_point-first.result in
    let parted =
    IsPartitionPoint-from_clause (is_lesser index fact c.requires) index first c.partition_point-first.ensures.partitioned
    (lesser_parted index fact c.requires) (λ a r f' k. search rules) in
    first-there index fact c.requires first parted c.in-Some.entry.now c.in-Some.ensures.lookup.0 c.in-Some.ensures.lookup.1

pub returns-in-None : goal.returns-in-None
returns-in-None c =
    let index = c.args.index.now in
    let fact = c.args.fact.now in
    let first = c.partition_point-first.result in
    let parted =
    IsPartitionPoint-from_clause (is_lesser index fact c.requires) index first c.partition_point-first.ensures.partitioned
    (lesser_parted index fact c.requires) (λ a r f' k. search rules) in
    first-past index fact c.requires first parted c.in-None.ensures.lookup.3
