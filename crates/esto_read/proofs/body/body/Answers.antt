use Rattle.std.proofs.Common.{◌<◌, length, arith}
use Rattle.std.specs.Prelude.{map}
use Rattle.std.proofs.lemmas.Result.{err_from_is_err_and}
use Rattle.esto_query.specs.Schemas.{arities_of}
use Rattle.esto_text.specs.Faults.{IsNameIn, IsFieldIn, IsTermIn}
use Rattle.esto_text.specs.Trees.{EachOfItem}
use Rattle.esto_text.specs.View.{item_of}
use Rattle.esto_read.proofs.BodyLemmas.{item_at, length_items, each_item, body_begins, body_more, body_done, body_fails}
use Rattle.esto_read.proofs.body.body.Goals as goal

pub item-requires-clause-utf8 : goal.item-requires-clause-utf8
item-requires-clause-utf8 c = c.requires.utf8

pub item-requires-clause-relations : goal.item-requires-clause-relations
item-requires-clause-relations c = c.requires.relations

pub item-requires-clause-stands : goal.item-requires-clause-stands
item-requires-clause-stands c =
    let bytes = c.args.bytes.now in
    each_item (EachOfItem (IsNameIn bytes) (IsFieldIn bytes) (IsTermIn bytes)) c.args.items.now c.items.each-index c.each-item.result c.requires.stand
    c.items-test.true c.each-item.is

pub returns-in_err-own-clause-err : goal.returns-in_err-own-clause-err
returns-in_err-own-clause-err c =
    let p = err_from_is_err_and c.from_residual.result c.from_residual.ensures.1 in
    let items = map item_of c.args.items.now in
    let lt : c.items.each-index < length items = omega (arith, length_items c.args.items.now, c.items-test.true) in
    rw (p.1, p.2) (body_fails c.args.words.now (arities_of c.args.schema.now) c.args.bytes.now c.args.names.now items c.items.each-index c.items.body
    c.items.names c.items.invariant lt (item_of c.each-item.result)
    (item_at c.args.items.now c.items.each-index c.each-item.result c.each-item.is) _ (rw c.len.ensures at c.in_err-own.ensures.err))

pub items-preserved : goal.items-preserved
items-preserved c =
    let items = map item_of c.args.items.now in
    let lt : c.items.each-index < length items = omega (arith, length_items c.args.items.now, c.items-test.true) in
    rw c.in_ok-append.ensures.ok (body_more c.args.words.now (arities_of c.args.schema.now) c.args.bytes.now c.args.names.now items c.items.each-index
    c.items.body c.items.names c.items.invariant lt (item_of c.each-item.result)
    (item_at c.args.items.now c.items.each-index c.each-item.result c.each-item.is) c.in_ok-own.own c.item.new.names c.in_ok-own.ensures.ok
    (rw c.len.ensures at c.in_ok-own.ensures.fits))

pub items-init : goal.items-init
items-init c =
    rw c.new-body.ensures (body_begins c.args.words.now (arities_of c.args.schema.now) c.args.bytes.now c.args.names.now (map item_of c.args.items.now))

pub returns-clause-ok : goal.returns-clause-ok
returns-clause-ok c =
    (body_done c.args.words.now (arities_of c.args.schema.now) c.args.bytes.now c.args.names.now (map item_of c.args.items.now) c.items.each-index c.items.body
    c.items.names c.items.invariant (omega (arith, length_items c.args.items.now, c.items-test.false))).0

pub returns-clause-fits : goal.returns-clause-fits
returns-clause-fits c =
    (body_done c.args.words.now (arities_of c.args.schema.now) c.args.bytes.now c.args.names.now (map item_of c.args.items.now) c.items.each-index c.items.body
    c.items.names c.items.invariant (omega (arith, length_items c.args.items.now, c.items-test.false))).1
