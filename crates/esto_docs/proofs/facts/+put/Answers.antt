use Rattle.std.proofs.Common.{◌+◌, ◌∷◌, [], ◌∙◌, List, map, take, drop, take_at, refl, sym, ap, arith}
use Rattle.std.proofs.lemmas.List.{drop_all}
use Rattle.std.proofs.lemmas.Result.{IfOk-weaker}
use Rattle.serde_json.specs.View.{view, items_view, members_view}
use Rattle.serde_json.specs.declared.value.Value.{Value}
use Rattle.serde_json.proofs.Views.{Entry}
use Rattle.esto_term.proofs.PlaceLemmas.{drop-item}
use Rattle.esto_docmodel.specs.Forests.{name, place}
use Rattle.esto_docmodel.specs.Shapes.{shape, row, named_row, shaped_field}
use Rattle.esto_docmodel.proofs.GainLemmas.{room_stays}
use Rattle.esto_docmodel.proofs.RisingLemmas.{rising_fields, rising_items}
use Rattle.esto_docs.specs.Filling.{value_node}
use Rattle.esto_docs.specs.Trees.{trees_of, fields_of}
use Rattle.esto_docs.proofs.FactLemmas.{bool_node, items_node, members_node, null_node, number_bare, string_node}
use Rattle.esto_docs.proofs.FactLemmas.{inside_puts, no_row, node_puts, turns_end, turns_more, turns_start}
use Rattle.esto_docs.proofs.HoldingLemmas.{nothing_inside}
use Rattle.esto_docs.proofs.TreeLemmas.{all_rise}
use Rattle.esto_docs.proofs.facts.+put.Goals as goal

pub put_node-put_content-requires-clause-room : goal.put_node-put_content-requires-clause-room
put_node-put_content-requires-clause-room g t c =
    room_stays g.S.FactSink.Holds g.S.FactSink.arities c.args.relations.now.base c.args.sink.now c.put_belows.new.sink c.in_ok-put_belows.ensures.same
    c.requires.room

pub put_node-returns-clause-puts : goal.put_node-returns-clause-puts
put_node-returns-clause-puts g t c =
    IfOk-weaker c.put_inside.result _ _
    (λ next inside. node_puts g.S.FactSink.Holds g.S.FactSink.arities c.args.relations.now c.args.above.now c.args.number c.in_ok-first.first next
    (value_node (view c.args.value.now)) c.args.sink.now _ _ _ c.in_ok-first.ensures
    (rw c.items.ensures at c.in_ok-put_belows.ensures) c.in_ok-put_content.ensures inside) c.put_inside.ensures.puts

pub put_inside-returns-in-Array-clause-puts : goal.put_inside-returns-in-Array-clause-puts
put_inside-returns-in-Array-clause-puts g t c =
    inside_puts g.S.FactSink.Holds g.S.FactSink.arities c.args.relations.now _ _ _ _ c.put_items.result _ _
    (items_node c.args.value.now c.in-Array.items c.in-Array.is) (rw c.as_slice.ensures.value at c.put_items.ensures.puts)

pub put_inside-returns-in-Object-clause-puts : goal.put_inside-returns-in-Object-clause-puts
put_inside-returns-in-Object-clause-puts g t c =
    inside_puts g.S.FactSink.Holds g.S.FactSink.arities c.args.relations.now _ _ _ _ c.put_members.result _ _
    (members_node c.args.value.now c.in-Object.members c.in-Object.is) c.put_members.ensures.puts

pub put_inside-returns-in-Null-clause-puts : goal.put_inside-returns-in-Null-clause-puts
put_inside-returns-in-Null-clause-puts g t c =
    no_row g.S.FactSink.Holds g.S.FactSink.arities c.args.relations.now _ c.args.first _ c.args.sink.now
    (nothing_inside _ _ (null_node c.args.value.now c.in-Null.is))

pub put_inside-returns-in-Bool-clause-puts : goal.put_inside-returns-in-Bool-clause-puts
put_inside-returns-in-Bool-clause-puts g t c =
    no_row g.S.FactSink.Holds g.S.FactSink.arities c.args.relations.now _ c.args.first _ c.args.sink.now
    (nothing_inside _ _ (bool_node c.args.value.now c.in-Bool.field-0 c.in-Bool.is))

pub put_inside-returns-in-Number-clause-puts : goal.put_inside-returns-in-Number-clause-puts
put_inside-returns-in-Number-clause-puts g t c =
    no_row g.S.FactSink.Holds g.S.FactSink.arities c.args.relations.now _ c.args.first _ c.args.sink.now
    (number_bare c.args.value.now c.in-Number.field-0 c.in-Number.is)

pub put_inside-returns-in-String-clause-puts : goal.put_inside-returns-in-String-clause-puts
put_inside-returns-in-String-clause-puts g t c =
    no_row g.S.FactSink.Holds g.S.FactSink.arities c.args.relations.now _ c.args.first _ c.args.sink.now
    (nothing_inside _ _ (string_node c.args.value.now c.in-String.field-0 c.in-String.is))

pub put_members-members-init : goal.put_members-members-init
put_members-members-init g t c = (
  c.in_ok-push.ensures.ok,
  turns_start g.S.FactSink.Holds g.S.FactSink.arities c.args.relations.now _ _ _ _ _
      (ap (λ (es : List Entry). named_row (map shaped_field (fields_of (members_view es))))
      (sym (c.into_iter-name-iterator.ensures.into_iter_gives ∙ c.iter-name-items.ensures.rest))),
)

pub put_items-items-init : goal.put_items-items-init
put_items-items-init g t c = (c.in_ok-push.ensures.ok, turns_start g.S.FactSink.Holds g.S.FactSink.arities c.args.relations.now _ _ _ _ _ refl)

pub put_members-put_field-requires-clause-room : goal.put_members-put_field-requires-clause-room
put_members-put_field-requires-clause-room g t c =
    room_stays g.S.FactSink.Holds g.S.FactSink.arities c.args.relations.now.base c.args.sink.now c.members.sink c.members.invariant.1.leads.same
    c.requires.room

pub put_items-put_item-requires-clause-room : goal.put_items-put_item-requires-clause-room
put_items-put_item-requires-clause-room g t c =
    room_stays g.S.FactSink.Holds g.S.FactSink.arities c.args.relations.now.base c.args.sink.now c.items.sink c.items.invariant.1.leads.same
    c.requires.room

pub put_members-members-preserved : goal.put_members-members-preserved
put_members-members-preserved g t c = (
  c.in_ok-next.ensures.same ∙ c.members.invariant.0,
  turns_more g.S.FactSink.Holds g.S.FactSink.arities c.args.relations.now c.args.above.now _ c.args.number c.args.first c.members.next _ _ _
      (named_row (map shaped_field (fields_of (members_view c.next.new.self)))) (name _) (value_node (view c.in-Some.value.now)) _ _ _ _
      c.members.invariant.0 (ap (λ (es : List Entry). named_row (map shaped_field (fields_of (members_view es)))) c.in-Some.ensures.steps)
      (rw c.as_str.ensures.value at c.in_ok-put_field.ensures) c.in_ok-next.ensures.puts c.members.invariant.1,
)

pub put_items-items-preserved : goal.put_items-items-preserved
put_items-items-preserved g t c = (
  c.in_ok-next.ensures.same ∙ c.items.invariant.0,
  turns_more g.S.FactSink.Holds g.S.FactSink.arities c.args.relations.now c.args.above.now _ c.args.number c.args.first c.items.next _ _ _
      (row (map shape (trees_of (items_view (drop (c.items.item-index + 1) c.args.items.now))))) place (value_node (view c.item-item.result)) _ _ _ _
      c.items.invariant.0
      (ap (λ (vs : List Value). row (map shape (trees_of (items_view vs))))
      (drop-item c.args.items.now c.items.item-index _ c.items-test.true c.item-item.is))
      c.in_ok-put_item.ensures c.in_ok-next.ensures.puts c.items.invariant.1,
)

pub put_members-returns-clause-same : goal.put_members-returns-clause-same
put_members-returns-clause-same g t c =
    c.truncate.ensures ∙ ap (take c.len-depth.result) c.members.invariant.0
    ∙ take_at c.args.above.now (c.args.number ∷ []) c.len-depth.result (sym c.len-depth.ensures)

pub put_items-returns-clause-same : goal.put_items-returns-clause-same
put_items-returns-clause-same g t c =
    c.truncate.ensures ∙ ap (take c.len-depth.result) c.items.invariant.0
    ∙ take_at c.args.above.now (c.args.number ∷ []) c.len-depth.result (sym c.len-depth.ensures)

pub put_members-returns-clause-puts : goal.put_members-returns-clause-puts
put_members-returns-clause-puts g t c =
    turns_end g.S.FactSink.Holds g.S.FactSink.arities c.args.relations.now _ _ c.members.next _ _ _ _
    (ap (λ (es : List Entry). named_row (map shaped_field (fields_of (members_view es)))) c.in-None.ensures.steps.0)
    (rising_fields (fields_of (members_view c.args.members.now.entries)) (all_rise c.args.members.now.entries c.iter-name-items.ensures.ordered))
    c.members.invariant.1

pub put_items-returns-clause-puts : goal.put_items-returns-clause-puts
put_items-returns-clause-puts g t c =
    turns_end g.S.FactSink.Holds g.S.FactSink.arities c.args.relations.now _ _ c.items.next _ _ _ _
    (ap (λ (vs : List Value). row (map shape (trees_of (items_view vs))))
    (drop_all c.items.item-index c.args.items.now (omega (arith, c.items-test.false))))
    (rising_items (trees_of (items_view c.args.items.now))) c.items.invariant.1
