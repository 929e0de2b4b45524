use Rattle.esto_docmodel.proofs.GainLemmas.{document_puts, room_stays}
use Rattle.esto_docmodel.proofs.documents.put_tree.Goals as goal

pub put_node-requires-clause-room : goal.put_node-requires-clause-room
put_node-requires-clause-room g c =
    room_stays g.S.FactSink.Holds g.S.FactSink.arities c.args.relations.now.base c.args.sink.now c.put_root.new.sink c.in_ok-put_root.ensures.same
    c.requires.room

pub returns : goal.returns
returns g c =
    document_puts g.S.FactSink.Holds g.S.FactSink.arities c.args.relations.now c.args.first c.args.tree.now _ c.args.sink.now _ _ c.put_node.result
    c.new-above.ensures c.in_ok-put_root.ensures c.put_node.ensures.facts c.put_node.ensures.rising c.put_node.ensures.next
