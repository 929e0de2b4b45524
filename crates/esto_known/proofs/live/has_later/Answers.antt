use Rattle.std.proofs.Common.{Contains, get_or, sym, subst, arith}
use Rattle.std.proofs.lemmas.List.{get_or_default, take_all}
use Rattle.esto_term.proofs.ListLemmas.{Contains-read}
use Rattle.esto_known.proofs.LiveLemmas.{below_more}
use Rattle.esto_known.proofs.live.has_later.Goals as goal

pub returns-then-place-since-clause-new : goal.returns-then-place-since-clause-new
returns-then-place-since-clause-new c _ old =
    let below = old (get_or c.args.places.now c.places.place-index 0) (Contains-read c.args.places.now c.places.place-index
    (get_or c.args.places.now c.places.place-index 0) c.places-test.true
    (get_or_default c.args.places.now c.places.place-index 0 (get_or c.args.places.now c.places.place-index 0) c.places-test.true)) in
    let above = c.if-place-since.true in omega (arith, below, above)

pub places-preserved : goal.places-preserved
places-preserved c =
    below_more c.args.places.now c.places.place-index c.args.since _ c.places-test.true
    (get_or_default c.args.places.now c.places.place-index _ _ c.places-test.true) c.if-place-since.false c.places.invariant

pub returns-clause-old : goal.returns-clause-old
returns-clause-old c = λ _ place inside. c.places.invariant place
    (subst (λ it. Contains it place) (sym (take_all c.places.place-index c.args.places.now c.places-test.false)) inside)
