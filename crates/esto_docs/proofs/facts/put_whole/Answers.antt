use Rattle.std.proofs.lemmas.Result.{IfOk-weaker}
use Rattle.serde_json.specs.View.{view}
use Rattle.esto_docmodel.proofs.GainLemmas.{room_stays}
use Rattle.esto_docs.proofs.FactLemmas.{document_put}
use Rattle.esto_docs.proofs.facts.put_whole.Goals as goal

pub put_node-requires-clause-room : goal.put_node-requires-clause-room
put_node-requires-clause-room g c =
    room_stays g.S.FactSink.Holds g.S.FactSink.arities c.args.relations.now.base c.args.sink.now c.put_root.new.sink c.in_ok-put_root.ensures.same
    c.requires.room

pub returns : goal.returns
returns g c =
    IfOk-weaker c.put_node.result _ _
    (λ next puts. document_put g.S.FactSink.Holds g.S.FactSink.arities c.args.relations.now c.args.first next (view c.args.value.now) _ c.args.sink.now _ _
    c.new-above.ensures c.in_ok-put_root.ensures puts) c.put_node.ensures.puts
