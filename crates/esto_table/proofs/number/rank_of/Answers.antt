use Rattle.std.proofs.Common.{rules}
use Rattle.std.specs.Ordering.{is_lt}
use Rattle.std.proofs.lemmas.List.Sorted.{IsPartitionPoint-from_clause}
use Rattle.esto_term.specs.Order.{term_cmp}
use Rattle.esto_table.proofs.NumberLemmas.{names_parted, rank_counted}
use Rattle.esto_table.proofs.number.rank_of.Goals as goal

pub returns : goal.returns
returns c =
    let names = c.args.names.now in
    let term = c.args.term.now in
    rank_counted names term c.partition_point.result c.partition_point.ensures.bound
    (IsPartitionPoint-from_clause (λ name. is_lt (term_cmp name term)) names c.partition_point.result c.partition_point.ensures.partitioned
    (names_parted names term c.requires) (λ a r f' k. search rules))
