use Rattle.std.proofs.Common.{◌∙◌, sym, ◌≡◌, of_z, to_z, w64, rules}
use Rattle.serde_json.specs.Data.{number}
use Rattle.serde_json.specs.View.{number_view}
use Rattle.esto_docmodel.proofs.EncodeLemmas.{none_held}
use Rattle.esto_docmodel.proofs.GainLemmas.{gains_none}
use Rattle.esto_docs.specs.Filling.{value_node}
use Rattle.esto_docs.proofs.FactLemmas.{held, lacks, float_node, signed_node, unsigned_node}
use Rattle.esto_docs.proofs.facts.put_number.Goals as goal

pub returns-then-not-has_any : goal.returns-then-not-has_any
returns-then-not-has_any g c =
    gains_none g.S.FactSink.Holds g.S.FactSink.arities _ c.args.sink.now
    (none_held c.args.relations.now (value_node (number (number_view c.args.number.now))).content c.args.node
    (sym c.has_any.ensures ∙ c.if-not-has_any.true))

pub returns-in-Some : goal.returns-in-Some
returns-in-Some g c =
    held g.S.FactSink.Holds g.S.FactSink.arities c.args.relations.now c.args.node _ _ c.put_unsigned.result _ _
    (unsigned_node (number_view c.args.number.now) c.in-Some.n (sym c.as_u64.ensures ∙ c.in-Some.is)) c.put_unsigned.ensures

pub returns-in-Some-as_i64 : goal.returns-in-Some-as_i64
returns-in-Some-as_i64 g c =
    let back : to_z w64 (of_z w64 c.in-Some-as_i64.n) ≡ c.in-Some-as_i64.n = search rules in
    held g.S.FactSink.Holds g.S.FactSink.arities c.args.relations.now c.args.node _ _ c.put_signed.result _ _
    (signed_node (number_view c.args.number.now) c.in-Some-as_i64.n (sym c.as_u64.ensures ∙ c.in_default.is)
    (sym c.as_i64.ensures ∙ c.in-Some-as_i64.is)) (rw back at c.put_signed.ensures)

pub returns : goal.returns
returns g c =
    lacks g.S.FactSink.Holds g.S.FactSink.arities c.args.relations.now c.args.node _ _ c.args.sink.now
    (float_node (number_view c.args.number.now) (sym c.as_u64.ensures ∙ c.in_default.is) (sym c.as_i64.ensures ∙ c.in_default-as_i64.is))
