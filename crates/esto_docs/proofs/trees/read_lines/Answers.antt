use Rattle.std.proofs.Common.{◌∙◌, ◌+◌, List, sym, length, subst}
use Rattle.std.proofs.lemmas.Bool.{eqb-true}
use Rattle.esto_docmodel.specs.declared.tree.Tree.{Tree}
use Rattle.esto_docs.proofs.LineLemmas.{HasGone, goes, stops, end}
use Rattle.esto_docs.proofs.trees.read_lines.Goals as goal

pub returns-in-Err-BadJson : goal.returns-in-Err-BadJson
returns-in-Err-BadJson c =
    let bad = rw c.in-Err-BadJson.field-0-is at c.in-Err-BadJson.ensures in
    let at_line = stops c.args.bytes.now c.lines.rest.now _ _ c.lines.trees c.lines.number c.lines.invariant c.cut_line.ensures.lines bad in
    rw c.fault.ensures at_line

pub lines-preserved : goal.lines-preserved
lines-preserved c =
    let line = c.cut_line.result.0.now in
    subst (λ (ts : List Tree). HasGone c.args.bytes.now c.cut_line.result.1.now ts (c.lines.number + 1)) (sym c.in-Ok.ensures.1)
    (goes c.args.bytes.now c.lines.rest.now line c.cut_line.result.1.now c.lines.trees c.lines.number c.lines.invariant c.cut_line.ensures.lines
    c.cut_line.ensures.less c.in-Ok.ensures.0)

pub returns : goal.returns
returns c =
    end c.args.bytes.now c.lines.rest.now c.lines.trees c.lines.number c.lines.invariant
    (eqb-true (length c.lines.rest.now) 0 (sym c.is_empty.ensures ∙ c.lines-test.false))
