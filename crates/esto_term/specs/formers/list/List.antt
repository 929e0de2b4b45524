-- How the generic list stores its items, so that a term may hold a list of terms. The checker reads the names below: they
-- split a list into its shape, which is its length, and the items that it holds.
use base.Stored.{code_map}
use denote.Hole.Carrier.{listed, list-listed}
use denote.Hole.Fix.{over}
use denote.HoleLaws.{Alike}
use denote.HolePlaces.{Recodes, struct_places, laid}
use denote.Model.Placed.{view_places}
use denote.Param.Weighed.{Weighed, w_list}
use denote.RattleType.{RattleType}
use mathlib.Core.Former.{Former, this, list, via, children}
use mathlib.Core.List.{List, []}
use mathlib.Core.Path.{◌≡◌, refl, sym}
use Rattle.std.specs.contracts.alloc.Global as heap
use Rattle.std.specs.contracts.impls.GlobalAllocator.TheImpl.{ghosts}
use Rattle.std.specs.declared.alloc.Global.{Global}
use Rattle.std.specs.formers.vec.Vec as vec
use Rattle.esto_term.specs.contracts.list.List as contract
use Rattle.esto_term.specs.contracts.list.List.TheInside as fields
use Rattle.esto_term.specs.declared.list.List.TheInside.{Inside}
use Rattle.esto_term.specs.declared.list.List.TheView.{view, invariant}

-- Seen from outside, a list of things is the plain list of them.
abbrev pub the_former : Former {0} → Former {0}
the_former inner = list inner

-- It weighs as much as the heaviest of its items.
abbrev pub the_weighed : {inner : Former {0}} → Weighed inner → Weighed (the_former inner)
the_weighed weighed = w_list weighed

-- There is a list even where there is nothing to hold, so a recursion can begin at it.
pub the_empty : List ⊥
the_empty = []

-- Its items, in order, are those of the plain list.
abbrev pub the_items : (X : Type 0) → List X → List X
the_items X items = items

-- And they are the ones that the former finds in it.
pub the_items_listed : (X : Type 0) (items : List X) → listed _ (children (the_former this) X items) ≡ the_items X items
the_items_listed X items = list-listed X items

-- Inside, a list is a struct of one field, a vector from the heap.
abbrev inside : Former {0}
inside = via (vec.the_former this Global) Inside (λ X whole. whole.items) (λ X items. record { items = items }) (λ X whole. refl) (λ X items. refl)

-- Two lists whose items are alike in memory, along a map of the items, are alike along the map of lists.
module _ (R S : RattleType) (h : R.Denot → S.Denot) where
  pub the_places : Alike R S h → Alike (contract.the_row R) (contract.the_row S) ((the_former this).map R.Denot S.Denot h)
  the_places alike =
      view_places inside (list this) view (λ X Y k u. refl) (λ X u. refl) R.Denot S.Denot h (contract.the_row R).coded (contract.the_row S).coded
      (invariant R.Denot) (invariant S.Denot) (λ u p q. refl) (λ u p q. refl) (λ u e. tt) (λ u e. tt)
      (over (fields.the_row R)) (over (fields.the_row S))
      (struct_places (fields.the_type R) (fields.the_type S) (vec.mapped h, tt) _ (λ d. refl) refl
      (laid _ _ _ (vec.the_places heap.the_row ghosts R S h alike), tt))

  -- The same holds of the codes by which a proof tells values apart.
  pub the_codes_placed : Recodes R S h → Recodes (contract.the_row R) (contract.the_row S) ((the_former this).map R.Denot S.Denot h)
  the_codes_placed recodes code = sym (code_map R.coded.code S.coded.code h (λ x. sym (recodes x)) code)
