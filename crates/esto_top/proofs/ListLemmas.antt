-- The items of a list are there, with its pick and its text; and so are the fragments that a set uses.
use Rattle.std.proofs.Common.{◌≡◌, inl, inr, ℕ, zero, suc, ◌+◌, ◌≤◌, Bool, List, [], ◌∷◌, ◌++◌, length, Some, None, Option, slice_get, Contains}
use Rattle.std.proofs.Common.{refl, ap, subst, arith}
use Rattle.std.specs.Prelude.{All}
use Rattle.std.proofs.lemmas.Bool.{cases_order}
use Rattle.std.proofs.lemmas.List.Elements.{All-nil, All-cons}
use Rattle.esto_term.specs.declared.term.Term.{Term}
use Rattle.esto_term.proofs.ChoiceLemmas.{Decided}
use Rattle.esto_term.proofs.DistinctLemmas.{decided_contains}
use Rattle.esto_term.proofs.ListLemmas.{Contains-head, Contains-rest, thing_at}
use Rattle.esto_semantics.specs.Access.{Patterns, IsExecutable, IsStatedOrder}
use Rattle.esto_semantics.specs.AccessLaws.{StatedOrderExists}
use Rattle.esto_semantics.specs.Listed.{chosen, IsWeight}
use Rattle.esto_semantics.specs.ListedLaws.{PickExists, WeightExists}
use Rattle.esto_term.specs.Sets.{Has}
use Rattle.esto_semantics.specs.declared.fact.Fact.{Fact}
use Rattle.esto_term.proofs.SetLemmas.{decided_has}
use Rattle.esto_list.specs.Items.{IsPickOf, sets_of, totals_of}
use Rattle.esto_list.specs.Text.{IsListText, list_text}
use Rattle.esto_list.specs.declared.listing.Listed.{Listed}
use Rattle.esto_views.specs.declared.fragments.FragmentDef.{FragmentDef}
use Rattle.esto_views.specs.declared.plan.Plan.{Plan}
use Rattle.esto_run.specs.Used.{AreUsed}
use Rattle.esto_run.proofs.UsedLemmas.{AreUsedBelow, none_used, all_used, use_more}

-- ---- items

module _ (order_exists : StatedOrderExists) (weight_exists : WeightExists) (patterns : Patterns) (weights : List ℕ) (atoms : List (Fact Term)) where
  -- these are the items of the sets
  pub record AreItems (sets : List (List Bool)) (items : List Listed) : Type 0 where
    pub sets_are : sets_of items ≡ sets
    pub orders : All (λ item. IsStatedOrder patterns atoms item.set item.order) items
    pub weighed : All (λ item. IsWeight weights (chosen item.set atoms) item.weight) items

  pub items_exist : (sets : List (List Bool)) → ((set : List Bool) → Contains sets set → IsExecutable patterns atoms set)
      → (items : List Listed) × AreItems sets items
  items_exist [] executable = ([], record { sets_are = refl; orders = All-nil _; weighed = All-nil _ })
  items_exist (set ∷ sets) executable =
      let rest = items_exist sets (λ other inside. executable other (Contains-rest set sets other inside)) in
      let order = order_exists patterns atoms set (executable set (Contains-head set sets)) in
      let weight = weight_exists weights (chosen set atoms) in
      let item : Listed = record { set = set; order = order.0; weight = weight.0 } in (
        item ∷ rest.0,
        record {
          sets_are = ap (λ others. set ∷ others) rest.1.sets_are;
          orders = All-cons (λ item. IsStatedOrder patterns atoms item.set item.order) item rest.0 order.1 rest.1.orders;
          weighed = All-cons (λ item. IsWeight weights (chosen item.set atoms) item.weight) item rest.0 weight.1 rest.1.weighed;
        },
      )

pub pick_exists : PickExists → (items : List Listed) → (pick : Option ℕ) × IsPickOf items pick
pick_exists exists [] = (None, refl)
pick_exists exists (first ∷ rest) =
    let pick = exists (totals_of (first ∷ rest)) (λ is. absurd (cc)) in (Some pick.0, pick.1)

pub text_exists : PickExists → (fragments : List FragmentDef) (plan : Plan) (items : List Listed) → (text : List ℕ) × IsListText fragments plan items text
text_exists exists fragments plan items =
    let pick = pick_exists exists items in (list_text fragments plan items pick.0, (pick.0, pick.1, refl))

-- ---- the fragments that a set uses

module _ (atoms : List (Fact Term)) (set : List Bool) where
  used_below : (count : ℕ) → count ≤ length atoms → (fragments : List ℕ) × AreUsedBelow atoms set count fragments
  used_below zero within = ([], none_used atoms set)
  used_below (suc count) within =
      let so_far = used_below count (omega (arith, within)) in
      let at = thing_at atoms count (omega (arith, within)) in
      let one : count + 1 ≡ suc count = omega arith in
      let more = by so_far.0 at.0 at.1 so_far.1 (decided_has set count) (decided_contains same_number so_far.0 at.0.relation) in
      (more.0, subst (λ bound. AreUsedBelow atoms set bound more.0) one more.1)
    where
      same_number : (x y : ℕ) → Decided (x ≡ y)
      same_number x y = elim (cases_order x y) [
        | inl same ↦ inl same
        | inr (inl less) ↦ inr (λ same. omega (arith, less, same))
        | inr (inr more) ↦ inr (λ same. omega (arith, more, same))
      ]

      by : (old : List ℕ) (atom : Fact Term) → slice_get atoms count ≡ Some atom → AreUsedBelow atoms set count old → Decided (Has set count)
          → Decided (Contains old atom.relation) → (new : List ℕ) × AreUsedBelow atoms set (count + 1) new
      by old atom at are (inr hasnt) there = (old, use_more atoms set count atom old old at (inl (inl hasnt, refl)) are)
      by old atom at are (inl has) (inl there) = (old, use_more atoms set count atom old old at (inl (inr (has, there), refl)) are)
      by old atom at are (inl has) (inr absent) =
          (old ++ atom.relation ∷ [], use_more atoms set count atom old (old ++ atom.relation ∷ []) at (inr (has, absent, refl)) are)

  pub used_exist : (fragments : List ℕ) × AreUsed atoms set fragments
  used_exist = let all = used_below (length atoms) (omega arith) in (all.0, all_used atoms set (length atoms) all.0 (omega arith) all.1)
