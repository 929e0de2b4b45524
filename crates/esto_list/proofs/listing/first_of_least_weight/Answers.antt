use Rattle.std.proofs.Common.{◌≡◌, ℕ, ◌+◌, ◌<◌, ◌≤◌, length, get_or, slice_index_or, sym, ap, subst, arith, ◌∙◌}
use Rattle.std.proofs.lemmas.Bool.{eqb-true}
use Rattle.std.proofs.lemmas.List.{nil_from_length}
use Rattle.esto_list.specs.declared.listing.Listed.{Listed}
use Rattle.esto_list.specs.Items.{totals_of}
use Rattle.esto_list.proofs.ItemLemmas.{total_at, some_there, pick_whole, new_is_first, new_is_least, old_is_least}
use Rattle.esto_list.proofs.listing.first_of_least_weight.Goals.{then-item-items, else-item-items}
use Rattle.esto_list.proofs.listing.first_of_least_weight.Goals as goal

pub returns-then-is_empty : goal.returns-then-is_empty
returns-then-is_empty c = nil_from_length c.args.items.now (eqb-true _ _ (sym c.is_empty.ensures ∙ c.if-is_empty.true))

pub items-init : goal.items-init
items-init c = record {
  there = some_there c.is_empty.result _ c.is_empty.ensures c.if-is_empty.false;
  least = λ other below. absurd (omega (arith, below));
  first = λ other below. absurd (omega (arith, below));
}

pub returns : goal.returns
returns c =
    pick_whole c.args.items.now c.items.place c.items.pick c.items-test.false c.items.invariant.there c.items.invariant.least c.items.invariant.first

pub items-preserved : goal.items-preserved
items-preserved c =
    let here = total_at c.args.items.now c.items.place c.index-items-place.result c.items-test.true c.index-items-place.is in
    let there = total_at c.args.items.now c.items.pick c.index-items-pick.result c.items.invariant.there c.index-items-pick.is in
    let placed : c.index-items-place.result.weight ≡ (get_or c.args.items.now c.items.place c.index-items-place.result).weight =
    ap (λ (it : Listed). it.weight) c.index-items-place.is in
    let picked : c.index-items-pick.result.weight ≡ (get_or c.args.items.now c.items.pick c.index-items-pick.result).weight =
    ap (λ (it : Listed). it.weight) c.index-items-pick.is in
    elim c.if-item-items.branch [
      | then-item-items w ↦
          let less : slice_index_or (totals_of c.args.items.now) c.items.place 0 < slice_index_or (totals_of c.args.items.now) c.items.pick 0 =
          omega (arith, here, there, placed, picked, w.if-item-items.true) in
          record {
            there = subst (λ n. n < length c.args.items.now) (sym w.pick-is) c.items-test.true;
            least = subst (λ n. (other : ℕ) → other < c.items.place + 1
                → slice_index_or (totals_of c.args.items.now) n 0 ≤ slice_index_or (totals_of c.args.items.now) other 0) (sym w.pick-is)
                (new_is_least (totals_of c.args.items.now) c.items.place c.items.pick c.items.invariant.least less);
            first = subst (λ n. (other : ℕ) → other < n → slice_index_or (totals_of c.args.items.now) n 0 < slice_index_or
                (totals_of c.args.items.now) other 0) (sym w.pick-is)
                (new_is_first (totals_of c.args.items.now) c.items.place c.items.pick c.items.invariant.least less);
          }
      | else-item-items w ↦
          let more : slice_index_or (totals_of c.args.items.now) c.items.pick 0 ≤ slice_index_or (totals_of c.args.items.now) c.items.place 0 =
          omega (arith, here, there, placed, picked, w.if-item-items.false) in
          record {
            there = subst (λ n. n < length c.args.items.now) (sym w.pick-is) c.items.invariant.there;
            least = subst (λ n. (other : ℕ) → other < c.items.place + 1
                → slice_index_or (totals_of c.args.items.now) n 0 ≤ slice_index_or (totals_of c.args.items.now) other 0) (sym w.pick-is)
                (old_is_least (totals_of c.args.items.now) c.items.place c.items.pick c.items.invariant.least more);
            first = subst (λ n. (other : ℕ) → other < n → slice_index_or (totals_of c.args.items.now) n 0 < slice_index_or
                (totals_of c.args.items.now) other 0) (sym w.pick-is) c.items.invariant.first;
          }
    ]
