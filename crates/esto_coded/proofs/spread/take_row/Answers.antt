use Rattle.std.proofs.lemmas.Result.{on_ok_weaker}
use Rattle.esto_coded.proofs.SpreadLemmas.{passing_not, passing_one}
use Rattle.esto_coded.proofs.spread.take_row.Goals as goal

pub returns-then-not-passes : goal.returns-then-not-passes
returns-then-not-passes c = passing_not c.args.columns.now c.args.row.now c.args.set.now c.passes.result c.passes.ensures c.if-not-passes.true

pub returns : goal.returns
returns c = on_ok_weaker c.add_all.result (passing_one c.args.columns.now c.args.row.now c.args.set.now c.add_all.new.self) c.add_all.ensures
