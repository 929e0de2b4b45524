use Rattle.std.proofs.lemmas.Result.{on_ok_weaker}
use Rattle.esto_columns.proofs.FindLemmas.{own_more}
use Rattle.esto_columns.proofs.finding.index_own.Goals as goal

pub returns : goal.returns
returns c = on_ok_weaker c.add.result
    (own_more c.args.rows.now.rows c.args.at c.read_row.new.codes c.items.result.now c.args.index.now c.add.new.self c.in_ok-read_row.ensures
    c.items.ensures c.requires.own)
    c.add.ensures.ok
