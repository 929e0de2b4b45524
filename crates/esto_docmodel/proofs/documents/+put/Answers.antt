use Rattle.std.proofs.Common.{arith, refl}
use Rattle.std.proofs.lemmas.Result.{on_ok_weaker}
use Rattle.esto_docmodel.proofs.EncodeLemmas.{value_facts, nothing_facts, fields_facts, items_facts, field_rest, item_rest, field_count, item_count}
use Rattle.esto_docmodel.proofs.EncodeLemmas.{fields_counted, items_counted}
use Rattle.esto_docmodel.proofs.EncodeLemmas.{value_inside, nothing_inside, fields_inside, items_inside, leaf_next, leaf_rising, row_next, row_rising}
use Rattle.esto_docmodel.proofs.EncodeLemmas.{field_inside, item_inside}
use Rattle.esto_docmodel.proofs.GainLemmas.{gains_both, gains_those, leads_start, leads_more, fields_end, items_end, room_stays}
use Rattle.esto_docmodel.proofs.RisingLemmas.{field_end, item_end}
use Rattle.esto_docmodel.proofs.documents.+put.Goals as goal

pub put_fields-fields-init : goal.put_fields-fields-init
put_fields-fields-init g t c = (leads_start g.S.FactSink.Holds g.S.FactSink.arities _ _, refl, λ inside. inside)

pub put_items-items-init : goal.put_items-items-init
put_items-items-init g t c = (leads_start g.S.FactSink.Holds g.S.FactSink.arities _ _, refl, λ inside. inside)

pub put_fields-fields-preserved : goal.put_fields-fields-preserved
put_fields-fields-preserved g t c =
    let put = gains_both g.S.FactSink.Holds g.S.FactSink.arities _ _ _ _ _ (rw c.as_str.ensures at c.in_ok-put_field.ensures) c.in_ok-next.ensures.facts in (
      leads_more g.S.FactSink.Holds g.S.FactSink.arities _ _ _ _ _ _ _
          (field_rest _ _ _ _ _ _ c.requires.inside c.items-field-items.result.now _ _ c.fields-test.true c.field-item.is c.in_ok-next.ensures.next) put
          c.fields.invariant.0,
      field_count _ _ _ c.items-field-items.result.now _ _ c.fields-test.true c.field-item.is c.in_ok-next.ensures.next c.fields.invariant.1,
      field_inside c.items-field-items.result.now _ _ _ c.fields-test.true c.field-item.is c.in_ok-next.ensures.rising c.fields.invariant.2,
    )

pub put_items-items-preserved : goal.put_items-items-preserved
put_items-items-preserved g t c =
    let put = gains_both g.S.FactSink.Holds g.S.FactSink.arities _ _ _ _ _ c.in_ok-put_item.ensures c.in_ok-next.ensures.facts in (
      leads_more g.S.FactSink.Holds g.S.FactSink.arities _ _ _ _ _ _ _
          (item_rest _ _ _ _ _ _ c.requires.inside c.args.items.now _ _ c.items-test.true c.item-item.is c.in_ok-next.ensures.next) put c.items.invariant.0,
      item_count _ _ _ c.args.items.now _ _ c.items-test.true c.item-item.is c.in_ok-next.ensures.next c.items.invariant.1,
      item_inside c.args.items.now _ _ _ c.items-test.true c.item-item.is c.in_ok-next.ensures.rising c.items.invariant.2,
    )

pub put_fields-returns-clause-facts : goal.put_fields-returns-clause-facts
put_fields-returns-clause-facts g t c =
    fields_end g.S.FactSink.Holds g.S.FactSink.arities c.args.relations.now c.args.number c.args.first _ _ _ _ c.items-field-items.result.now c.args.fields.now
    c.fields.field-index (omega (arith, c.fields-test.false)) c.items-field-items.ensures.value c.fields.invariant.0

pub put_items-returns-clause-facts : goal.put_items-returns-clause-facts
put_items-returns-clause-facts g t c =
    items_end g.S.FactSink.Holds g.S.FactSink.arities c.args.relations.now c.args.number c.args.first _ _ _ _ c.args.items.now c.items.item-index
    (omega (arith, c.items-test.false)) c.items.invariant.0

pub put_fields-returns-clause-rising : goal.put_fields-returns-clause-rising
put_fields-returns-clause-rising g t c =
    field_end c.items-field-items.result.now c.args.fields.now c.fields.field-index
    (omega (arith, c.fields-test.false)) c.items-field-items.ensures.value c.items-field-items.ensures.rise c.fields.invariant.2

pub put_items-returns-clause-rising : goal.put_items-returns-clause-rising
put_items-returns-clause-rising g t c = item_end c.args.items.now c.items.item-index (omega (arith, c.items-test.false)) c.items.invariant.2

pub put_node-returns-in_ok-put_value-in-Value-clause-facts : goal.put_node-returns-in_ok-put_value-in-Value-clause-facts
put_node-returns-in_ok-put_value-in-Value-clause-facts g t c =
    gains_those g.S.FactSink.Holds g.S.FactSink.arities _ _ _ _
    (value_facts c.args.relations.now c.args.number c.args.above.now c.args.tree.now c.in-Value.text _ c.in-Value.is c.as_str.ensures)
    (gains_both g.S.FactSink.Holds g.S.FactSink.arities _ _ _ _ _ (rw c.items.ensures at c.in_ok-put_belows.ensures) c.in_ok-put_value-in-Value.ensures)

pub put_node-returns-in-Nothing-clause-facts : goal.put_node-returns-in-Nothing-clause-facts
put_node-returns-in-Nothing-clause-facts g t c =
    gains_those g.S.FactSink.Holds g.S.FactSink.arities _ _ _ _
    (nothing_facts c.args.relations.now c.args.number c.args.above.now c.args.tree.now c.in-Nothing.is) (rw c.items.ensures at c.in_ok-put_belows.ensures)

pub put_node-returns-in_ok-inner-in-Fields-clause-facts : goal.put_node-returns-in_ok-inner-in-Fields-clause-facts
put_node-returns-in_ok-inner-in-Fields-clause-facts g t c =
    on_ok_weaker c.put_fields.result
    (λ gains. gains_those g.S.FactSink.Holds g.S.FactSink.arities _ _ _ _
    (fields_facts c.args.relations.now c.args.number c.args.above.now c.args.tree.now c.in-Fields.fields _ c.in-Fields.is c.in_ok-next.ensures)
    (gains_both g.S.FactSink.Holds g.S.FactSink.arities _ _ _ _ _ (rw c.items.ensures at c.in_ok-put_belows.ensures) gains)) c.put_fields.ensures.facts

pub put_node-returns-in_ok-inner-in-Items-clause-facts : goal.put_node-returns-in_ok-inner-in-Items-clause-facts
put_node-returns-in_ok-inner-in-Items-clause-facts g t c =
    on_ok_weaker c.put_items.result
    (λ gains. gains_those g.S.FactSink.Holds g.S.FactSink.arities _ _ _ _
    (items_facts c.args.relations.now c.args.number c.args.above.now c.args.tree.now c.in-Items.items _ c.in-Items.is c.in_ok-next.ensures)
    (gains_both g.S.FactSink.Holds g.S.FactSink.arities _ _ _ _ _ (rw c.items.ensures at c.in_ok-put_belows.ensures) gains))
    (rw c.items-in-Items.ensures at c.put_items.ensures.facts)

pub put_node-returns-in_ok-put_value-in-Value-clause-rising : goal.put_node-returns-in_ok-put_value-in-Value-clause-rising
put_node-returns-in_ok-put_value-in-Value-clause-rising g t c = leaf_rising _ (value_inside c.args.tree.now c.in-Value.text c.in-Value.is)

pub put_node-returns-in_ok-put_value-in-Value-clause-next : goal.put_node-returns-in_ok-put_value-in-Value-clause-next
put_node-returns-in_ok-put_value-in-Value-clause-next g t c = leaf_next _ c.args.number _ (value_inside c.args.tree.now c.in-Value.text c.in-Value.is)
    c.in_ok-next.ensures

pub put_node-returns-in-Nothing-clause-rising : goal.put_node-returns-in-Nothing-clause-rising
put_node-returns-in-Nothing-clause-rising g t c = leaf_rising _ (nothing_inside c.args.tree.now c.in-Nothing.is)

pub put_node-returns-in-Nothing-clause-next : goal.put_node-returns-in-Nothing-clause-next
put_node-returns-in-Nothing-clause-next g t c = leaf_next _ c.args.number _ (nothing_inside c.args.tree.now c.in-Nothing.is) c.in_ok-next.ensures

pub put_node-returns-in_ok-inner-in-Fields-clause-rising : goal.put_node-returns-in_ok-inner-in-Fields-clause-rising
put_node-returns-in_ok-inner-in-Fields-clause-rising g t c = row_rising _ c.put_fields.result _
    (fields_inside c.args.tree.now c.in-Fields.fields c.in-Fields.is) c.put_fields.ensures.rising

pub put_node-returns-in_ok-inner-in-Fields-clause-next : goal.put_node-returns-in_ok-inner-in-Fields-clause-next
put_node-returns-in_ok-inner-in-Fields-clause-next g t c = row_next _ c.put_fields.result _ (fields_inside c.args.tree.now c.in-Fields.fields c.in-Fields.is)
    c.args.number _ c.in_ok-next.ensures c.put_fields.ensures.next

pub put_node-returns-in_ok-inner-in-Items-clause-rising : goal.put_node-returns-in_ok-inner-in-Items-clause-rising
put_node-returns-in_ok-inner-in-Items-clause-rising g t c =
    row_rising _ c.put_items.result _ (items_inside c.args.tree.now c.in-Items.items c.in-Items.is) (rw c.items-in-Items.ensures at c.put_items.ensures.rising)

pub put_node-returns-in_ok-inner-in-Items-clause-next : goal.put_node-returns-in_ok-inner-in-Items-clause-next
put_node-returns-in_ok-inner-in-Items-clause-next g t c =
    row_next _ c.put_items.result _ (items_inside c.args.tree.now c.in-Items.items c.in-Items.is) c.args.number _ c.in_ok-next.ensures
    (rw c.items-in-Items.ensures at c.put_items.ensures.next)

pub put_fields-put_field-requires-clause-room : goal.put_fields-put_field-requires-clause-room
put_fields-put_field-requires-clause-room g t c =
    room_stays g.S.FactSink.Holds g.S.FactSink.arities c.args.relations.now.base c.args.sink.now c.fields.sink c.fields.invariant.0.same c.requires.room

pub put_items-put_item-requires-clause-room : goal.put_items-put_item-requires-clause-room
put_items-put_item-requires-clause-room g t c =
    room_stays g.S.FactSink.Holds g.S.FactSink.arities c.args.relations.now.base c.args.sink.now c.items.sink c.items.invariant.0.same c.requires.room

pub put_node-put_value-requires-clause-room : goal.put_node-put_value-requires-clause-room
put_node-put_value-requires-clause-room g t c =
    room_stays g.S.FactSink.Holds g.S.FactSink.arities c.args.relations.now.base c.args.sink.now c.put_belows.new.sink c.in_ok-put_belows.ensures.same
    c.requires.room

pub put_fields-returns-clause-next : goal.put_fields-returns-clause-next
put_fields-returns-clause-next g t c =
    fields_counted _ _ c.items-field-items.result.now c.args.fields.now c.fields.field-index (omega (arith, c.fields-test.false))
    c.items-field-items.ensures.value c.fields.invariant.1

pub put_items-returns-clause-next : goal.put_items-returns-clause-next
put_items-returns-clause-next g t c =
    items_counted _ _ c.args.items.now c.items.item-index (omega (arith, c.items-test.false)) c.items.invariant.1

pub put_node-put_belows-requires : goal.put_node-put_belows-requires
put_node-put_belows-requires g t c = record { base = c.requires.base; room = c.requires.room }
