use Rattle.std.proofs.Common.{◌<◌, length, arith}
use Rattle.esto_query.specs.Schemas.{names_of}
use Rattle.esto_top.proofs.CheckLemmas.{rank_more}
use Rattle.esto_top.proofs.check.put_ranks.Goals as goal

pub relations-preserved : goal.relations-preserved
relations-preserved c =
    let within : c.relations.relation < length c.args.ranks.now = omega (arith, c.relations-test.true, c.len-relation-end.ensures.value, c.requires) in
    rank_more (names_of c.args.schema.now) c.args.ranks.now c.relations.relation c.name.result.now c.rank.result c.name.ensures within c.rank.ensures _ _ _
    c.in_ok-put_rank.ensures c.relations.invariant
