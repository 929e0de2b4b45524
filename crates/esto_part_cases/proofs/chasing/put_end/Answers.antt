use Rattle.std.proofs.Common.{sym, subst}
use Rattle.esto_chase_laws.specs.Runs.{IsStart}
use Rattle.esto_query.specs.Making.{query_of}
use Rattle.esto_part_cases.proofs.chasing.put_end.Goals as goal

pub chase-requires-clause-start : goal.chase-requires-clause-start
chase-requires-clause-start c =
    subst IsStart (sym c.in_ok-start.ensures.state)
    (c.queries_have_starts.ensures.start (query_of c.args.query.now) (c.queries_are_sound.ensures c.args.query.now).query)
