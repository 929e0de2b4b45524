use Rattle.std.proofs.Common.{◌<◌, [], map, length, take, get_or, refl, sym, subst, arith}
use Rattle.std.proofs.lemmas.Result.{on_ok_weaker}
use Rattle.esto_columns.specs.Asked.{IsAllowed}
use Rattle.esto_steps.specs.Rows.{IsRowOf}
use Rattle.esto_exec.specs.Turns.{IsUnderWay}
use Rattle.esto_exec.proofs.RunLemmas.{fragment_there, fragment_allows, fragment_rows}
use Rattle.esto_exec.proofs.UnderWayLemmas.{under_way_more, links_in_columns}
use Rattle.esto_exec.proofs.turns.take_turn.Goals as goal

pub bounds-fragments-get : goal.bounds-fragments-get
bounds-fragments-get g c = fragment_there g.F.Fragment.shape g.F.Fragment.rows c.args.fragments.now c.args.steps.now.gets.now c.args.number
    c.item-get.result.now
    c.item-get.ensures c.requires.runnable

pub offset_bounds-fragments-get : goal.offset_bounds-fragments-get
offset_bounds-fragments-get g c =
    let below : c.item-get.result.now.fragment < length c.args.fragments.now =
    fragment_there g.F.Fragment.shape g.F.Fragment.rows c.args.fragments.now c.args.steps.now.gets.now c.args.number c.item-get.result.now
    c.item-get.ensures c.requires.runnable in omega (arith, below)

pub own_get-requires : goal.own_get-requires
own_get-requires g c = let long = c.requires.arities.long in let there = c.requires.there in omega (arith, long, there)

pub follow_on-requires : goal.follow_on-requires
follow_on-requires g c = subst (IsAllowed (g.F.Fragment.shape c.index-fragments-get.result))
    (sym (links_in_columns c.args.so_far.now.places (take c.args.number c.args.steps.now.arities.now) c.item-get.result.now.inputs c.in_ok-own.own.inputs
    c.in_ok-own.ensures.inputs))
    (fragment_allows g.F.Fragment.shape g.F.Fragment.rows c.args.fragments.now c.args.steps.now.gets.now c.args.number c.item-get.result.now
    c.index-fragments-get.result
    c.item-get.ensures c.requires.runnable c.index-fragments-get.is)

pub returns-clause-under_way : goal.returns-clause-under_way
returns-clause-under_way g c =
    let arity = c.in_ok-own.ensures.places in
    on_ok_weaker c.follow_on.result
    (λ kept. subst (λ done. IsUnderWay (IsRowOf (λ number. get_or (map g.F.Fragment.rows c.args.fragments.now) number [])) c.args.steps.now.arities.now
    c.args.steps.now.gets.now c.args.steps.now.equations.now c.args.steps.now.head.now done c.follow_on.new.so_far.places c.follow_on.new.so_far.rows.rows)
    (sym c.follow_on.ensures.done) (under_way_more (IsRowOf (λ number. get_or (map g.F.Fragment.rows c.args.fragments.now) number []))
    c.args.steps.now.arities.now c.args.steps.now.gets.now
    c.args.steps.now.equations.now c.args.steps.now.head.now c.args.so_far.now.done c.own_get.new.done c.args.so_far.now.places c.own_get.new.places
    c.follow_on.new.so_far.places
    _ c.args.number c.item-get.result.now
    c.in_ok-own.own
    c.args.so_far.now.rows.rows (g.F.Fragment.rows c.index-fragments-get.result) c.follow_on.new.so_far.rows.rows
    c.requires.arities c.requires.under_way c.requires.fresh c.item-get.ensures (c.requires.ready c.item-get.result.now c.item-get.ensures)
    (fragment_rows g.F.Fragment.shape g.F.Fragment.rows c.args.fragments.now c.item-get.result.now.fragment c.index-fragments-get.result
    (fragment_there g.F.Fragment.shape g.F.Fragment.rows c.args.fragments.now c.args.steps.now.gets.now c.args.number c.item-get.result.now c.item-get.ensures
    c.requires.runnable)
    c.index-fragments-get.is)
    c.in_ok-own.ensures.done arity.0 arity.1 arity.2
    c.in_ok-own.ensures.inputs c.in_ok-own.ensures.filters refl kept.0 kept.1))
    c.follow_on.ensures.rows
