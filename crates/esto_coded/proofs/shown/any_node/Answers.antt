use Rattle.std.proofs.Common.{◌<◌, ◌≤◌, sym, subst, arith}
use Rattle.std.proofs.lemmas.Option.{get_or_from_slice_get}
use Rattle.esto_term.proofs.ListLemmas.{each_more, each_seen}
use Rattle.esto_coded.specs.declared.coded.TheConstants.{FIRST_NODE}
use Rattle.esto_rows.proofs.SameLemmas.{is_not}
use Rattle.esto_coded.proofs.shown.any_node.Goals as goal

pub codes-preserved : goal.codes-preserved
codes-preserved c =
    let code = c.item.result in
    each_more (λ it. FIRST_NODE ≤ it → ⊥) c.args.column.now c.codes.at code (subst (λ it. c.codes.at < it) c.len-at-end.ensures c.codes-test.true)
    (sym (get_or_from_slice_get c.args.column.now c.codes.at code code c.item.ensures))
    (λ past. let under = c.if-item-ge-FIRST_NODE.false in omega (arith, under, past)) c.codes.invariant

pub returns : goal.returns
returns c = is_not (λ found. each_seen (λ code. FIRST_NODE ≤ code → ⊥) c.args.column.now c.codes.at
    (subst (λ it. it ≤ c.codes.at) c.len-at-end.ensures c.codes-test.false) c.codes.invariant found.0 found.1 found.2)
