use Rattle.esto_read.proofs.UnionLemmas.{one_there, one_back}
use Rattle.esto_read.proofs.unions.unions_of_one_are_queries.Goals as goal

pub returns : goal.returns
returns c words schema bytes query =
    (one_there c.unions_are_determined.ensures.one words schema bytes query, one_back c.unions_are_determined.ensures.one words schema bytes query)
