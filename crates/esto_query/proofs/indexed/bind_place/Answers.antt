use Rattle.std.proofs.Common.{length, refl, ap, arith}
use Rattle.std.proofs.lemmas.Option.{slice_get_read}
use Rattle.std.proofs.lemmas.Result.{IfOk-weaker}
use Rattle.esto_query.proofs.TrailLemmas.{Tries-place, Tries-out}
use Rattle.esto_query.proofs.indexed.bind_place.Goals as goal

pub bind_atom-requires : goal.bind_atom-requires
bind_atom-requires c = c.requires

pub returns-then-place-items : goal.returns-then-place-items
returns-then-place-items c =
    Tries-out c.args.start.now c.args.trail.now.items c.args.atom.now c.args.facts.now c.args.place (rw c.items-items.ensures at c.if-place-items.true)

pub returns : goal.returns
returns c =
    let at = slice_get_read c.args.facts.now _ c.args.place _ refl
    (omega (arith, ap length c.items-items.ensures, c.if-place-items.false)) (rw c.items-items.ensures at c.index-items-place.is) in
    IfOk-weaker c.bind_atom.result _ _ (λ is_bound. Tries-place c.args.start.now c.args.trail.now.items c.bind_atom.new.trail.items is_bound
    c.args.atom.now c.index-items-place.result c.args.facts.now c.args.place at) c.bind_atom.ensures
