use Rattle.esto_top.proofs.AskedLemmas.{puts_none}
use Rattle.esto_top.proofs.EndingLemmas.{put_counts, put_finishes}
use Rattle.esto_top.proofs.ending.finish.Goals as goal

pub returns-in-None-clause-puts : goal.returns-in-None-clause-puts
returns-in-None-clause-puts g c = puts_none (g.O.Sink.puts c.args.out.now)

pub returns-in-Some-clause-put : goal.returns-in-Some-clause-put
returns-in-Some-clause-put g c =
    put_finishes c.put.result c.status_of_put.result c.in-Some.status c.unwrap_or.result c.status_of_put.ensures c.unwrap_or.ensures
    _ _ _ _ _ c.in-Some.text c.bytes.result.now c.bytes.ensures c.in-Some.ensures c.put.ensures.answer

pub returns-in-Some-clause-puts : goal.returns-in-Some-clause-puts
returns-in-Some-clause-puts g c =
    put_counts c.put.result c.status_of_put.result c.in-Some.status c.unwrap_or.result c.status_of_put.ensures c.unwrap_or.ensures _ _ c.put.ensures.puts
