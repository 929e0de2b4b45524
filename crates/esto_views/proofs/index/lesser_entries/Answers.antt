use Rattle.std.proofs.Common.{rules}
use Rattle.std.proofs.lemmas.List.Sorted.{IsPartitionPoint-from_clause}
use Rattle.esto_views.proofs.IndexLemmas.{is_lesser, lesser_parted}
use Rattle.esto_views.proofs.index.lesser_entries.Goals as goal

pub returns : goal.returns
returns c =
    let index = c.args.index.now in
    let term = c.args.term.now in
    IsPartitionPoint-from_clause (is_lesser index term c.requires) index c.partition_point.result c.partition_point.ensures.partitioned
    (lesser_parted index term c.requires) (λ a r f' k. search rules)
