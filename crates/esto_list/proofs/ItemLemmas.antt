-- Items of a list: their sets, their weights and the pick.
use Rattle.std.proofs.Common.{◌≡◌, ℕ, zero, suc, ◌+◌, ◌==◌, ◌<◌, ◌≤◌, Bool, true, false, cond, List, [], ◌∷◌, ◌++◌, map, length, take, drop, get_or}
use Rattle.std.proofs.Common.{slice_index_or, Some, slice_get, Contains, refl, sym, ap, ◌∙◌, subst, arith, add-one, below_more, inl, inr}
use Rattle.std.proofs.Math.ListN.{drop_of_length-le}
use Rattle.std.proofs.lemmas.Bool.{cases_Bool, false≢true}
use Rattle.std.proofs.lemmas.List.{length-map, map-append, take_more, take_all}
use Rattle.std.proofs.lemmas.List.Sums.{sum_by-cons}
use Rattle.std.proofs.lemmas.Option.{none-some, same_Some, get_or_from_slice_get}
use Rattle.esto_term.specs.declared.term.Term.{Term}
use Rattle.esto_semantics.specs.declared.fact.Fact.{Fact}
use Rattle.esto_term.specs.Sets.{Has}
use Rattle.esto_semantics.specs.Listed.{chosen, IsPick}
use Rattle.esto_term.proofs.SetLemmas.{Has-within}
use Rattle.esto_views.specs.declared.plan.PlanAtom.{PlanAtom}
use Rattle.esto_views.specs.Plans.{fact_of}
use Rattle.esto_access.proofs.AtomLemmas.{at_fact}
use Rattle.esto_list.specs.declared.listing.Listed.{Listed}
use Rattle.esto_list.specs.Items.{set_weight, sets_of, totals_of}
use Rattle.esto_term.proofs.ListLemmas.{map_at}
use Rattle.esto_term.proofs.PlaceLemmas.{item_at}

-- ---- the pick

pub total_at : (items : List Listed) (place : ℕ) (item : Listed) → place < length items → item ≡ get_or items place item
    → slice_index_or (totals_of items) place 0 ≡ item.weight
total_at items place item below is =
    get_or_from_slice_get (totals_of items) place item.weight 0 (map_at (λ (it : Listed). it.weight) items place item
    (item_at items place item below is))

module _ (weights : List ℕ) (place pick : ℕ) (least : (other : ℕ) → other < place → slice_index_or weights pick 0 ≤ slice_index_or weights other 0) where
  module _ (less : slice_index_or weights place 0 < slice_index_or weights pick 0) where
    pub new_is_first : (other : ℕ) → other < place → slice_index_or weights place 0 < slice_index_or weights other 0
    new_is_first other below = let old = least other below in omega (arith, less, old)

    pub new_is_least : (other : ℕ) → other < place + 1 → slice_index_or weights place 0 ≤ slice_index_or weights other 0
    new_is_least = below_more (λ other. slice_index_or weights place 0 ≤ slice_index_or weights other 0) place
        (λ other below. let first = new_is_first other below in omega (arith, first)) (omega arith)

  pub old_is_least : slice_index_or weights pick 0 ≤ slice_index_or weights place 0 → (other : ℕ) → other < place + 1
      → slice_index_or weights pick 0 ≤ slice_index_or weights other 0
  old_is_least more = below_more (λ other. slice_index_or weights pick 0 ≤ slice_index_or weights other 0) place least more

-- a list that is not empty has a first place
pub some_there : (empty : Bool) (n : ℕ) → empty ≡ (n == 0) → empty ≡ false → 0 < n
some_there empty zero is not_empty = absurd (false≢true (sym not_empty ∙ is))
some_there empty (suc n) is not_empty = omega arith

-- the pick among all items is the pick of the list
pub pick_whole : (items : List Listed) (place pick : ℕ) → length items ≤ place → pick < length items
    → ((other : ℕ) → other < place → slice_index_or (totals_of items) pick 0 ≤ slice_index_or (totals_of items) other 0)
    → ((other : ℕ) → other < pick → slice_index_or (totals_of items) pick 0 < slice_index_or (totals_of items) other 0) → IsPick (totals_of items) pick
pick_whole items place pick past below least first =
    let same = length-map items (λ (it : Listed). it.weight) in
    record {
      there = omega (arith, same, below);
      least = λ other within. least other (omega (arith, same, past, within));
      first = first;
    }

-- ---- weights

lacks : (set : List Bool) (number : ℕ) → (Has set number → ⊥) → slice_index_or set number false ≡ false
lacks set number not_in = elim (cases_Bool (slice_index_or set number false)) [ inl e ↦ absurd (not_in e) | inr e ↦ e ]

drop_none : {A : Type 0} (number : ℕ) → drop {A = A} number [] ≡ []
drop_none zero = refl
drop_none (suc number) = refl

module _ (weights : List ℕ) where
  -- the weight from a number on
  weight_step : (atoms : List (Fact Term)) (set : List Bool) (number : ℕ) (atom : Fact Term) → slice_get atoms number ≡ Some atom
      → set_weight weights (drop number atoms) (drop number set)
      ≡ cond (slice_index_or set number false) (slice_index_or weights atom.relation 0) 0 + set_weight weights (drop (suc number) atoms) (drop (suc number) set)
  weight_step [] set number atom e = absurd (none-some atom e)
  weight_step (first ∷ atoms) [] number atom e =
      ap (set_weight weights (drop number (first ∷ atoms))) (drop_none number)
      ∙ sym (ap (λ it. 0 + set_weight weights (drop number atoms) it) (drop_none (suc number)))
  weight_step (first ∷ atoms) (true ∷ set) zero atom e =
      sum_by-cons (λ x. x) (slice_index_or weights first.relation 0) (map (λ (it : Fact Term). slice_index_or weights it.relation 0) (chosen set atoms))
      ∙ ap (λ (it : Fact Term). slice_index_or weights it.relation 0 + set_weight weights atoms set) (same_Some first atom e)
  weight_step (first ∷ atoms) (false ∷ set) zero atom e = omega arith
  weight_step (first ∷ atoms) (is_in ∷ set) (suc number) atom e = weight_step atoms set number atom e

  module _ (atoms : List PlanAtom) (given : List PlanAtom) (same : given ≡ atoms) (set : List Bool) (number : ℕ) (atom : PlanAtom)
      (below : number < length given) (is : atom ≡ get_or given number atom) where
    step : set_weight weights (drop number (map fact_of atoms)) (drop number set)
        ≡ cond (slice_index_or set number false) (slice_index_or weights atom.fragment 0) 0 + set_weight weights (drop (number + 1) (map fact_of atoms))
        (drop (number + 1) set)
    step = weight_step (map fact_of atoms) set number (fact_of atom)
        (at_fact atoms number atom (subst (λ it. slice_get it number ≡ Some atom) same (item_at given number atom below is)))
        ∙ ap (λ next. cond (slice_index_or set number false) (slice_index_or weights atom.fragment 0) 0 + set_weight weights (drop next (map fact_of atoms))
        (drop next set)) (sym (add-one number))

    pub weight_has : (old new more whole : ℕ) → old + set_weight weights (drop number (map fact_of atoms)) (drop number set) ≡ whole
        → Has set number → more ≡ slice_index_or weights atom.fragment 0 → new ≡ old + more
        → new + set_weight weights (drop (number + 1) (map fact_of atoms)) (drop (number + 1) set) ≡ whole
    weight_has old new more whole before has e d =
        let next = step ∙ ap (λ b. cond b (slice_index_or weights atom.fragment 0) 0 + set_weight weights (drop (number + 1) (map fact_of atoms))
        (drop (number + 1) set)) has in
        omega (arith, before, next, e, d)

    pub weight_lacks : (old new whole : ℕ) → old + set_weight weights (drop number (map fact_of atoms)) (drop number set) ≡ whole
        → (Has set number → ⊥) → new ≡ old → new + set_weight weights (drop (number + 1) (map fact_of atoms)) (drop (number + 1) set) ≡ whole
    weight_lacks old new whole before not_in d =
        let next = step ∙ ap (λ b. cond b (slice_index_or weights atom.fragment 0) 0 + set_weight weights (drop (number + 1) (map fact_of atoms))
        (drop (number + 1) set)) (lacks set number not_in) in
        omega (arith, before, next, d)

  pub weight_end : (atoms : List PlanAtom) (set : List Bool) (given : List PlanAtom) → given ≡ atoms → (number old whole : ℕ) → length given ≤ number
      → old + set_weight weights (drop number (map fact_of atoms)) (drop number set) ≡ whole → old ≡ whole
  weight_end atoms set given same number old whole past before =
      let none : set_weight weights (drop number (map fact_of atoms)) (drop number set) ≡ 0
      = ap (λ it. set_weight weights it (drop number set)) (drop_of_length-le (map fact_of atoms)
      (subst (λ n. n ≤ number) (sym (length-map atoms fact_of ∙ ap length (sym same))) past)) ∙ chosen_none (drop number set) in
      omega (arith, before, none)
    where
      chosen_none : (left : List Bool) → set_weight weights [] left ≡ 0
      chosen_none [] = refl
      chosen_none (is_in ∷ left) = refl

pub not_beyond : (set : List Bool) (number count : ℕ) → count ≡ length set → count ≤ number → Has set number → ⊥
not_beyond set number count e past has = let below = Has-within set number has in omega (arith, e, past, below)

-- ---- the sets of the items

pub set_there : (sets given : List (List Bool)) (place : ℕ) (set : List Bool) → given ≡ sets → place < length given → set ≡ get_or given place set
    → Contains sets set
set_there sets given place set same below is = subst (λ it. Contains it set) same (place, below, sym is)

pub sets_more : (items new : List Listed) (item : Listed) (given : List (List Bool)) (place : ℕ) (set : List Bool) → place < length given
    → set ≡ get_or given place set
    → item.set ≡ set → new ≡ items ++ item ∷ [] → sets_of items ≡ take place given → sets_of new ≡ take (place + 1) given
sets_more items new item given place set below is same e before =
    ap sets_of e ∙ map-append (λ (it : Listed). it.set) items (item ∷ [])
    ∙ ap (λ it. it ++ item.set ∷ []) before
    ∙ ap (λ it. take place given ++ it ∷ []) (same ∙ is)
    ∙ sym (take_more given place set below)

pub sets_all : (items : List Listed) (sets given : List (List Bool)) (place : ℕ) → given ≡ sets → length given ≤ place → sets_of items ≡ take place given
    → sets_of items ≡ sets
sets_all items sets given place same past before = before ∙ take_all place given past ∙ same
