use Rattle.std.proofs.Common.{◌<◌, [], ◌∷◌, map, length, get_or, Contains, refl, sym, subst, arith}
use Rattle.std.proofs.lemmas.Result.{IfOk-weaker}
use Rattle.esto_steps.specs.Rows.{IsRowOf}
use Rattle.esto_steps.specs.declared.steps.Link.{Link}
use Rattle.esto_steps.specs.Meaning.{IsMet}
use Rattle.esto_exec.specs.Instead.{given_shape, given_rows}
use Rattle.esto_exec.specs.Turns.{link_in}
use Rattle.esto_exec.proofs.InsteadLemmas.{asked_enough, freed_instead}
use Rattle.esto_exec.proofs.RunLemmas.{fragment_there, fragment_allows, fragment_rows}
use Rattle.esto_exec.proofs.reading.asked_at.Goals as goal

pub bounds-fragments-get : goal.bounds-fragments-get
bounds-fragments-get g c = fragment_there g.F.Fragment.shape g.F.Fragment.rows c.args.fragments.now c.args.steps.now.gets.now c.args.number
    c.item-get.result.now
    c.item-get.ensures c.requires.runnable

pub offset_bounds-fragments-get : goal.offset_bounds-fragments-get
offset_bounds-fragments-get g c =
    let below : c.item-get.result.now.fragment < length c.args.fragments.now =
    fragment_there g.F.Fragment.shape g.F.Fragment.rows c.args.fragments.now c.args.steps.now.gets.now c.args.number c.item-get.result.now
    c.item-get.ensures c.requires.runnable in omega (arith, below)

pub asked_by-requires : goal.asked_by-requires
asked_by-requires g c = fragment_allows g.F.Fragment.shape g.F.Fragment.rows c.args.fragments.now c.args.steps.now.gets.now c.args.number
    c.item-get.result.now c.index-fragments-get.result c.item-get.ensures c.requires.runnable c.index-fragments-get.is

pub returns-clause-instead : goal.returns-clause-instead
returns-clause-instead g c = IfOk-weaker c.asked_reading.result _ _
    (λ it is. freed_instead c.args.steps.now.arities.now c.args.steps.now.gets.now c.args.number c.item-get.result.now it.get
    (record { arity = c.in_ok-rows.rows.arity; ways = [] ∷ [] }) (given_shape g.F.Fragment.shape it.given) c.item-get.ensures is.0 is.3 is.1 is.2 refl
    (λ link inside. c.requires.named c.item-get.result.now link c.item-get.ensures inside))
    c.asked_reading.ensures

pub returns-clause-enough : goal.returns-clause-enough
returns-clause-enough g c = IfOk-weaker c.asked_reading.result _ _
    (λ it is. asked_enough (IsRowOf (λ number. get_or (map g.F.Fragment.rows c.args.fragments.now) number [])) c.args.steps.now.arities.now
    c.args.steps.now.gets.now c.args.steps.now.equations.now c.args.number c.item-get.result.now c.item-get.ensures
    (g.F.Fragment.rows c.index-fragments-get.result)
    (fragment_rows g.F.Fragment.shape g.F.Fragment.rows c.args.fragments.now c.item-get.result.now.fragment c.index-fragments-get.result
    (fragment_there g.F.Fragment.shape g.F.Fragment.rows c.args.fragments.now c.args.steps.now.gets.now c.args.number c.item-get.result.now c.item-get.ensures
    c.requires.runnable) c.index-fragments-get.is)
    c.args.steps.now.head.now c.args.so_far.now.done c.args.so_far.now.places c.args.so_far.now.rows.rows c.in_ok-rows.rows.rows
    (given_rows g.F.Fragment.rows it.given) c.requires.arities c.requires.under_way c.requires.fresh
    (c.requires.ready c.item-get.result.now c.item-get.ensures) c.in_ok-rows.ensures.sound
    (λ cells row inside among met. c.in_ok-rows.ensures.complete cells row inside among
    (subst (λ arities. (link : Link) → Contains c.item-get.result.now.inputs link → IsMet cells row (link_in c.args.so_far.now.places arities link))
    (sym c.first_of.ensures) met))
    is.4)
    c.asked_reading.ensures
