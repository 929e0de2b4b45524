use Rattle.std.proofs.Common.{sym, ◌∙◌, arith}
use Rattle.esto_term.proofs.ListLemmas.{thing_at}
use Rattle.esto_term.proofs.PlaceLemmas.{item_at}
use Rattle.esto_semantics.proofs.SubstitutionLemmas.{substituted_later}
use Rattle.esto_prov.proofs.MeetLemmas.{nothing_left}
use Rattle.esto_prov.proofs.taking.first_met.Goals as goal

pub returns-then-place-to : goal.returns-then-place-to
returns-then-place-to c = sym (nothing_left c.args.from.now c.args.to.now c.places.place c.args.term.now c.if-place-to.true) ∙ c.places.invariant

pub places-preserved : goal.places-preserved
places-preserved c =
    let target = thing_at c.args.to.now c.places.place (omega arith) in
    substituted_later c.args.from.now c.args.to.now c.places.place c.args.term.now c.index-from-place.result target.0 c.is_eq.result
    (item_at c.args.from.now c.places.place c.index-from-place.result c.places-test.true c.index-from-place.is) target.1
    (rw c.compare.ensures at c.is_eq.ensures) c.if-is_eq.false
    ∙ c.places.invariant
