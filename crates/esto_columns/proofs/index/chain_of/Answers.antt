use Rattle.std.proofs.Common.{◌≡◌, ◌+◌, ◌-◌, sym, subst, arith}
use Rattle.esto_columns.specs.Indexed.{LeadsOn}
use Rattle.esto_columns.proofs.IndexLemmas.{Collected, collect_start, collect_more, collect_end}
use Rattle.esto_columns.proofs.index.chain_of.Goals as goal

pub places-init : goal.places-init
places-init c = λ buckets bucket leads start.
    subst (Collected buckets bucket c.args.last) (sym c.new-places.ensures.items) (collect_start buckets bucket c.args.last start)

pub places-preserved : goal.places-preserved
places-preserved c = λ buckets bucket leads start.
    let so_far = c.places.invariant buckets bucket leads start in
    let some = c.places-test.true in
    let is : c.places.next - 1 + 1 ≡ c.places.next = omega (arith, some) in
    let before = leads (c.places.next - 1) bucket (so_far.own (c.places.next - 1) is) in
    subst (Collected buckets bucket c.place_before-next.result) (sym c.in-Ok.ensures.items)
    (collect_more buckets bucket c.places.next (c.places.next - 1) c.place_before-next.result c.places.places.items is
    (subst (LeadsOn buckets bucket (c.places.next - 1)) (sym (c.place_before-next.ensures.value before.within)) before) so_far)

pub returns : goal.returns
returns c = λ buckets bucket leads start. collect_end buckets bucket c.places.next c.places.places.items c.places-test.false
    (c.places.invariant buckets bucket leads start)
