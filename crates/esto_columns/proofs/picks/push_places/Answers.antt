use Rattle.std.proofs.Common.{◌≡◌, ◌<◌, ◌++◌, get_or, length, vec_len, vec_capacity, sym, ap, ◌∙◌, arith, refl}
use Rattle.std.proofs.lemmas.List.{append-nil}
use Rattle.std.proofs.lemmas.Option.{get_or_from_slice_get}
use Rattle.esto_columns.proofs.PickLemmas.{placed_none, push_place, pushed_here, pushed_not}
use Rattle.esto_columns.proofs.picks.push_places.Goals.{then-item-code, else-item-code}
use Rattle.esto_columns.proofs.picks.push_places.Goals as goal

pub places-init : goal.places-init
places-init c = (
  sym (append-nil c.args.places.now.items)
      ∙ ap (λ them. c.args.places.now.items ++ them) (sym (placed_none c.args.column.now c.args.from c.args.code)),
  omega arith,
  refl,
)

pub places-preserved : goal.places-preserved
places-preserved c =
    let inside : c.places.at < length c.args.column.now = let end = c.requires.inside in let test = c.places-test.true in omega (arith, end, test) in
    let held : get_or c.args.column.now c.places.at 0 ≡ c.item.result =
    get_or_from_slice_get c.args.column.now c.places.at c.item.result 0 c.item.ensures in
    elim c.if-item-code.branch [
      | then-item-code w ↦ (
        push_place c.args.column.now c.args.places.now.items c.places.places.items c.if-item-code.places.items c.args.from c.places.at c.args.code
            c.places.auto.at inside c.places.invariant.0
            (ap (λ it. it.items) w.places-is
            ∙ pushed_here c.places.places.items w.push_reserved.new.self.items c.places.at
            (get_or c.args.column.now c.places.at 0) c.args.code (held ∙ w.if-item-code.true) w.push_reserved.ensures.items),
        (let len = ap (λ it. vec_len it) w.places-is in let more = w.push_reserved.ensures.len in let before = c.places.invariant.1 in
            omega (arith, len, more, before)),
        ap (λ it. vec_capacity it) w.places-is ∙ w.push_reserved.ensures.capacity ∙ c.places.invariant.2,
      )
      | else-item-code w ↦ (
        push_place c.args.column.now c.args.places.now.items c.places.places.items c.if-item-code.places.items c.args.from c.places.at c.args.code
            c.places.auto.at inside c.places.invariant.0
            (ap (λ it. it.items) w.places-is
            ∙ pushed_not c.places.places.items c.places.at (get_or c.args.column.now c.places.at 0) c.args.code
            (λ same. w.if-item-code.false (sym held ∙ same))),
        (let len = ap (λ it. vec_len it) w.places-is in let before = c.places.invariant.1 in omega (arith, len, before)),
        ap (λ it. vec_capacity it) w.places-is ∙ c.places.invariant.2,
      )
    ]
