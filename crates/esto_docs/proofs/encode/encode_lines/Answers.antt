use Rattle.std.proofs.Common.{[], ◌∙◌, ◌++◌, List, sym, length, subst}
use Rattle.std.proofs.lemmas.Bool.{eqb-true}
use Rattle.esto_docmodel.specs.Putting.{PutsDocuments}
use Rattle.esto_docmodel.specs.declared.tree.Tree.{Tree}
use Rattle.esto_docmodel.proofs.GainLemmas.{puts_none, puts_more, room_stays}
use Rattle.esto_docs.specs.Files.{trees_of_line}
use Rattle.esto_docs.proofs.LineLemmas.{start, goes, stops, end}
use Rattle.esto_docs.proofs.encode.encode_lines.Goals as goal

pub lines-init : goal.lines-init
lines-init g c = (
  [],
  start c.args.bytes.now,
  puts_none g.S.FactSink.Holds g.S.FactSink.arities c.args.relations.now c.args.first c.args.sink.now,
)

pub encode_line-requires : goal.encode_line-requires
encode_line-requires g c =
    room_stays g.S.FactSink.Holds g.S.FactSink.arities c.args.relations.now.base c.args.sink.now c.lines.sink c.lines.invariant.2.facts.same c.requires

pub returns-in-Err-BadJson : goal.returns-in-Err-BadJson
returns-in-Err-BadJson g c =
    let bad = rw c.in-Err-BadJson.field-0-is at c.in-Err-BadJson.ensures in
    let at_line = stops c.args.bytes.now c.lines.rest.now _ _ c.lines.invariant.0 c.lines.number c.lines.invariant.1 c.cut_line.ensures.lines bad in
    rw c.fault.ensures at_line

pub lines-preserved : goal.lines-preserved
lines-preserved g c =
    let trees = c.lines.invariant.0 in
    let line = c.cut_line.result.0.now in (
      trees ++ trees_of_line line,
      goes c.args.bytes.now c.lines.rest.now line c.cut_line.result.1.now trees c.lines.number c.lines.invariant.1 c.cut_line.ensures.lines
          c.cut_line.ensures.less
          c.in-Ok.ensures.0,
      puts_more g.S.FactSink.Holds g.S.FactSink.arities c.args.relations.now trees (trees_of_line line) c.args.first c.lines.next _ c.args.sink.now
          c.lines.sink _ c.lines.invariant.2 c.in-Ok.ensures.1,
    )

pub returns : goal.returns
returns g c =
    let last = end c.args.bytes.now c.lines.rest.now c.lines.invariant.0 c.lines.number c.lines.invariant.1
    (eqb-true (length c.lines.rest.now) 0 (sym c.is_empty.ensures ∙ c.lines-test.false)) in (
      last.0,
      subst (λ (trees : List Tree). PutsDocuments g.S.FactSink.Holds g.S.FactSink.arities c.args.relations.now trees c.args.first c.lines.next c.args.sink.now
          c.lines.sink) last.1 c.lines.invariant.2,
    )
