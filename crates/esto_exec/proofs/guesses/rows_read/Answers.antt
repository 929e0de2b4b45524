use Rattle.std.proofs.Common.{◌<◌, length, arith}
use Rattle.esto_exec.proofs.RunLemmas.{fragment_there, fragment_allows, none_allowed}
use Rattle.esto_exec.proofs.guesses.rows_read.Goals as goal

pub bounds-fragments-get : goal.bounds-fragments-get
bounds-fragments-get g c = fragment_there g.F.Fragment.shape g.F.Fragment.rows c.args.fragments.now c.args.steps.now.gets.now c.args.number
    c.item-get.result.now
    c.item-get.ensures c.requires

pub offset_bounds-fragments-get : goal.offset_bounds-fragments-get
offset_bounds-fragments-get g c =
    let below : c.item-get.result.now.fragment < length c.args.fragments.now =
    fragment_there g.F.Fragment.shape g.F.Fragment.rows c.args.fragments.now c.args.steps.now.gets.now c.args.number c.item-get.result.now
    c.item-get.ensures c.requires in omega (arith, below)

pub whole-requires : goal.whole-requires
whole-requires g c =
    none_allowed (g.F.Fragment.shape c.index-fragments-get.result) c.item-get.result.now.inputs (c.is_empty.ensures.0 c.if-not-is_empty.false)
    (fragment_allows g.F.Fragment.shape g.F.Fragment.rows c.args.fragments.now c.args.steps.now.gets.now c.args.number c.item-get.result.now
    c.index-fragments-get.result
    c.item-get.ensures c.requires c.index-fragments-get.is)
