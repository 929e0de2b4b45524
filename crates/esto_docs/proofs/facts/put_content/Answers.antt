use Rattle.std.proofs.Common.{true, false, ◌∙◌, ap, sym}
use Rattle.serde_json.specs.declared.value.Value as json
use Rattle.esto_docs.proofs.FactLemmas.{held, lacks, bool_node, items_node, members_node, null_node, number_node, string_node}
use Rattle.esto_docs.proofs.facts.put_content.Goals as goal

pub returns-in-Null : goal.returns-in-Null
returns-in-Null g c =
    lacks g.S.FactSink.Holds g.S.FactSink.arities c.args.relations.now c.args.node _ _ c.args.sink.now (null_node c.args.value.now c.in-Null.is)

pub returns-in-Bool-true : goal.returns-in-Bool-true
returns-in-Bool-true g c =
    held g.S.FactSink.Holds g.S.FactSink.arities c.args.relations.now c.args.node _ _ c.put_value.result _ _
    (bool_node c.args.value.now true (c.in-Bool-true.is ∙ ap json.Bool (sym c.in-Bool-true.field-0-is ∙ c.in-Bool-true.field-0-test)))
    c.put_value.ensures

pub returns-in-Bool-false : goal.returns-in-Bool-false
returns-in-Bool-false g c =
    held g.S.FactSink.Holds g.S.FactSink.arities c.args.relations.now c.args.node _ _ c.put_value-in-Bool-false.result _ _
    (bool_node c.args.value.now false (c.in-Bool-false.is ∙ ap json.Bool (sym c.in-Bool-false.field-0-is ∙ c.in-Bool-false.field-0-test)))
    c.put_value-in-Bool-false.ensures

pub returns-in-String : goal.returns-in-String
returns-in-String g c =
    held g.S.FactSink.Holds g.S.FactSink.arities c.args.relations.now c.args.node _ _ c.put_value-in-String.result _ _
    (string_node c.args.value.now c.in-String.text c.in-String.is) (rw c.as_str.ensures.value at c.put_value-in-String.ensures)

pub returns-in-Number : goal.returns-in-Number
returns-in-Number g c =
    held g.S.FactSink.Holds g.S.FactSink.arities c.args.relations.now c.args.node _ _ c.put_number.result _ _
    (number_node c.args.value.now c.in-Number.number c.in-Number.is) c.put_number.ensures

pub returns-in-Array : goal.returns-in-Array
returns-in-Array g c =
    lacks g.S.FactSink.Holds g.S.FactSink.arities c.args.relations.now c.args.node _ _ c.args.sink.now
    (items_node c.args.value.now c.in-Array.field-0 c.in-Array.is)

pub returns-in-Object : goal.returns-in-Object
returns-in-Object g c =
    lacks g.S.FactSink.Holds g.S.FactSink.arities c.args.relations.now c.args.node _ _ c.args.sink.now
    (members_node c.args.value.now c.in-Object.field-0 c.in-Object.is)
