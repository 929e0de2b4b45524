use Rattle.std.proofs.Common.{◌≡◌, ◌<◌, Some, [], map, length, get_or, slice_get, sym, subst, ap, ◌∙◌, arith}
use Rattle.std.proofs.lemmas.List.{take_all}
use Rattle.esto_term.proofs.PlaceLemmas.{item_at}
use Rattle.esto_steps.specs.Rows.{IsRowOf}
use Rattle.esto_exec.specs.Turns.{AreArities}
use Rattle.esto_exec.proofs.RunLemmas.{fragment_there, fragment_rows}
use Rattle.esto_exec.proofs.UnderWayLemmas.{arities_more}
use Rattle.esto_exec.proofs.turns.arities_of.Goals as goal

pub bounds-fragments-get : goal.bounds-fragments-get
bounds-fragments-get g c = fragment_there g.F.Fragment.shape g.F.Fragment.rows c.args.fragments.now c.args.gets.now c.gets.get-index c.get-item.result
    (ap (λ it. slice_get it c.gets.get-index) (sym c.items-get-items.ensures)
    ∙ item_at c.items-get-items.result.now c.gets.get-index c.get-item.result c.gets-test.true c.get-item.is)
    c.requires

pub offset_bounds-fragments-get : goal.offset_bounds-fragments-get
offset_bounds-fragments-get g c =
    let below : c.get-item.result.fragment < length c.args.fragments.now =
    fragment_there g.F.Fragment.shape g.F.Fragment.rows c.args.fragments.now c.args.gets.now c.gets.get-index c.get-item.result
    (ap (λ it. slice_get it c.gets.get-index) (sym c.items-get-items.ensures)
    ∙ item_at c.items-get-items.result.now c.gets.get-index c.get-item.result c.gets-test.true c.get-item.is)
    c.requires in
    omega (arith, below)

pub gets-preserved : goal.gets-preserved
gets-preserved g c =
    let there : slice_get c.items-get-items.result.now c.gets.get-index ≡ Some c.get-item.result =
    item_at c.items-get-items.result.now c.gets.get-index c.get-item.result c.gets-test.true c.get-item.is in
    let below : c.get-item.result.fragment < length c.args.fragments.now =
    fragment_there g.F.Fragment.shape g.F.Fragment.rows c.args.fragments.now c.args.gets.now c.gets.get-index c.get-item.result
    (ap (λ it. slice_get it c.gets.get-index) (sym c.items-get-items.ensures) ∙ there) c.requires in
    arities_more (IsRowOf (λ number. get_or (map g.F.Fragment.rows c.args.fragments.now) number [])) c.items-get-items.result.now c.gets.get-index
    c.get-item.result c.gets.arities c.push.new.self c.arity.result there c.gets.invariant
    (λ row held. c.arity.ensures.fits row ((fragment_rows g.F.Fragment.shape g.F.Fragment.rows c.args.fragments.now c.get-item.result.fragment
    c.index-fragments-get.result below c.index-fragments-get.is row).1 held) ∙ sym c.arity.ensures.value)
    c.in_ok-push.ensures.ok

pub returns : goal.returns
returns g c = subst (λ them. AreArities (IsRowOf (λ number. get_or (map g.F.Fragment.rows c.args.fragments.now) number [])) them c.gets.arities)
    (take_all c.gets.get-index c.items-get-items.result.now c.gets-test.false ∙ c.items-get-items.ensures) c.gets.invariant
