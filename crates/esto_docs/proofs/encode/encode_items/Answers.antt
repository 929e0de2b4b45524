use Rattle.esto_docmodel.proofs.GainLemmas.{puts_none, room_stays}
use Rattle.esto_docs.proofs.EncodingLemmas.{items_more}
use Rattle.esto_docs.proofs.encode.encode_items.Goals as goal

pub items-init : goal.items-init
items-init g c = puts_none g.S.FactSink.Holds g.S.FactSink.arities c.args.relations.now c.args.first c.args.sink.now

pub put_document-requires : goal.put_document-requires
put_document-requires g c =
    room_stays g.S.FactSink.Holds g.S.FactSink.arities c.args.relations.now.base c.args.sink.now c.items.sink c.items.invariant.facts.same c.requires

pub items-preserved : goal.items-preserved
items-preserved g c =
    items_more g.S.FactSink.Holds g.S.FactSink.arities c.args.relations.now c.args.first c.items.next _ c.deref-item-items.result.now c.items.item-index
    c.item-item.result _ c.args.sink.now c.items.sink c.put_document.new.sink c.items-test.true c.item-item.is c.items.invariant c.in_ok-next.ensures
