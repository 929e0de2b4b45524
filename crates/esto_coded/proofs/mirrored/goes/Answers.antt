use Rattle.std.proofs.Common.{◌≡◌, ◌+◌, ◌<◌, suc, drop, length, sym, ap, ◌∙◌, arith}
use Rattle.std.proofs.lemmas.Bool.{false≢true}
use Rattle.esto_term.proofs.ListLemmas.{thing_at}
use Rattle.esto_coded.specs.Mirrored.{renamed}
use Rattle.esto_coded.proofs.MirrorLemmas.{renamed_at, renamed_past}
use Rattle.esto_coded.proofs.mirrored.goes.Goals as goal

pub returns-then-equal : goal.returns-then-equal
returns-then-equal c told =
    c.places.invariant
    ∙ renamed_at c.args.from.now c.args.to.now c.places.place c.args.term.now c.item.result.now c.item-then-equal.result.now c.item.ensures
    c.item-then-equal.ensures (c.equal.ensures.0 c.if-equal.true)
    ∙ c.equal-then-equal.ensures.0 told

pub places-preserved : goal.places-preserved
places-preserved c =
    let below = c.places-test.true in
    let end = c.len-place-end.ensures in
    let one = c.len.ensures in
    let two = c.len-2.ensures in
    let same = c.if-len.false in
    let within : c.places.place < length c.args.to.now = omega (arith, below, end, one, two, same) in
    let other = thing_at c.args.to.now c.places.place within in
    let on : suc c.places.place ≡ c.places.place + 1 = omega (arith) in
    c.places.invariant
    ∙ renamed_past c.args.from.now c.args.to.now c.places.place c.args.term.now c.item.result.now other.0 c.item.ensures other.1
    (λ is. false≢true (sym c.if-equal.false ∙ c.equal.ensures.1 is))
    ∙ ap (λ place. renamed (drop place c.args.from.now) (drop place c.args.to.now) c.args.term.now) on
