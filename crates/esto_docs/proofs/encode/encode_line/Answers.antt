use Rattle.std.proofs.Common.{◌∙◌, List, sym, subst}
use Rattle.serde_json.specs.View.{view}
use Rattle.esto_docmodel.specs.Putting.{PutsDocuments}
use Rattle.esto_docmodel.specs.declared.tree.Tree.{Tree}
use Rattle.esto_docmodel.proofs.GainLemmas.{puts_none}
use Rattle.esto_docs.specs.Encoding.{EncodesLine}
use Rattle.esto_docs.proofs.RowLemmas.{blank_line, line_value, wanted}
use Rattle.esto_docs.proofs.encode.encode_line.Goals as goal

pub returns-then-is_blank : goal.returns-then-is_blank
returns-then-is_blank g c =
    let read = blank_line c.args.line.now (sym c.is_blank.ensures ∙ c.if-is_blank.true) in (
      read.0,
      subst (λ (trees : List Tree). PutsDocuments g.S.FactSink.Holds g.S.FactSink.arities c.args.relations.now trees c.args.first c.args.first c.args.sink.now
          c.args.sink.now) (sym read.1) (puts_none g.S.FactSink.Holds g.S.FactSink.arities c.args.relations.now c.args.first c.args.sink.now),
    )

pub returns : goal.returns
returns g c =
    let read = line_value c.args.line.now (view c.in_ok-value.value) (sym c.is_blank.ensures ∙ c.if-is_blank.false) c.in_ok-value.ensures in
    wanted c.put_document.result c.or_parse_error.result _ _
    (EncodesLine g.S.FactSink.Holds g.S.FactSink.arities c.args.relations.now c.args.line.now c.args.first c.args.sink.now c.put_document.new.sink)
    c.or_parse_error.ensures c.put_document.ensures (λ next puts. (
      read.0,
      subst (λ (trees : List Tree). PutsDocuments g.S.FactSink.Holds g.S.FactSink.arities c.args.relations.now trees c.args.first next c.args.sink.now
          c.put_document.new.sink) (sym read.1) puts,
    )) tt
