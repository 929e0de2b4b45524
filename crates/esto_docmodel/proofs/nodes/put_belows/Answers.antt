use Rattle.std.proofs.Common.{sym}
use Rattle.std.proofs.lemmas.Result.{on_ok_weaker}
use Rattle.esto_docmodel.specs.Putting.{turned}
use Rattle.esto_docmodel.proofs.EncodeLemmas.{belows_all, belows_none}
use Rattle.esto_docmodel.proofs.GainLemmas.{gains_none, gains_those}
use Rattle.esto_docmodel.proofs.nodes.put_belows.Goals as goal

pub returns-then-not-relations : goal.returns-then-not-relations
returns-then-not-relations g c =
    gains_none g.S.FactSink.Holds g.S.FactSink.arities _ c.args.sink.now
    (belows_none c.args.relations.now (turned c.args.above.now) c.args.node c.if-not-relations.true)

pub returns : goal.returns
returns g c = on_ok_weaker c.put_each_below.result
    (gains_those g.S.FactSink.Holds g.S.FactSink.arities _ _ c.args.sink.now c.put_each_below.new.sink
    (sym (belows_all c.args.relations.now (turned c.args.above.now) c.args.node c.if-not-relations.false)))
    c.put_each_below.ensures
