use Rattle.std.proofs.Common.{◌<◌, [], map, length, get_or, arith}
use Rattle.std.proofs.lemmas.Result.{IfOk-weaker}
use Rattle.esto_steps.specs.Rows.{IsRowOf}
use Rattle.esto_exec.specs.Instead.{given_shape, given_rows}
use Rattle.esto_exec.proofs.InsteadLemmas.{own_enough, like_instead}
use Rattle.esto_exec.proofs.RunLemmas.{fragment_there, fragment_allows, fragment_rows}
use Rattle.esto_exec.proofs.reading.own_at.Goals as goal

pub bounds-fragments-get : goal.bounds-fragments-get
bounds-fragments-get g c = fragment_there g.F.Fragment.shape g.F.Fragment.rows c.args.fragments.now c.args.steps.now.gets.now c.args.number
    c.item-get.result.now
    c.item-get.ensures c.requires.runnable

pub offset_bounds-fragments-get : goal.offset_bounds-fragments-get
offset_bounds-fragments-get g c =
    let below : c.item-get.result.now.fragment < length c.args.fragments.now =
    fragment_there g.F.Fragment.shape g.F.Fragment.rows c.args.fragments.now c.args.steps.now.gets.now c.args.number c.item-get.result.now
    c.item-get.ensures c.requires.runnable in omega (arith, below)

pub returns-clause-instead : goal.returns-clause-instead
returns-clause-instead g c = IfOk-weaker c.own_reading.result _ _
    (λ it is. like_instead c.args.steps.now.arities.now c.args.steps.now.gets.now c.args.number c.item-get.result.now it.get
    (g.F.Fragment.shape c.index-fragments-get.result) (given_shape g.F.Fragment.shape it.given) c.item-get.ensures is.0 is.3 is.1 is.2
    (fragment_allows g.F.Fragment.shape g.F.Fragment.rows c.args.fragments.now c.args.steps.now.gets.now c.args.number c.item-get.result.now
    c.index-fragments-get.result c.item-get.ensures c.requires.runnable c.index-fragments-get.is))
    c.own_reading.ensures

pub returns-clause-enough : goal.returns-clause-enough
returns-clause-enough g c = IfOk-weaker c.own_reading.result _ _
    (λ it is. own_enough (IsRowOf (λ number. get_or (map g.F.Fragment.rows c.args.fragments.now) number [])) c.args.steps.now.arities.now
    c.args.steps.now.gets.now c.args.steps.now.equations.now c.args.number c.item-get.result.now c.item-get.ensures
    (g.F.Fragment.rows c.index-fragments-get.result)
    (fragment_rows g.F.Fragment.shape g.F.Fragment.rows c.args.fragments.now c.item-get.result.now.fragment c.index-fragments-get.result
    (fragment_there g.F.Fragment.shape g.F.Fragment.rows c.args.fragments.now c.args.steps.now.gets.now c.args.number c.item-get.result.now c.item-get.ensures
    c.requires.runnable) c.index-fragments-get.is)
    (given_rows g.F.Fragment.rows it.given) is.4)
    c.own_reading.ensures
