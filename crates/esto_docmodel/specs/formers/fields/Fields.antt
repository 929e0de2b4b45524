-- How fields store what stands at them, so that a tree may hold fields of trees. The checker reads the names below: they split fields
-- into their shape, which is their names, and the things that they hold.
use base.Stored.{gcons, code_map}
use denote.Hole.Carrier.{listed}
use denote.Hole.Fix.{over}
use denote.HoleLaws.{Alike}
use denote.HolePlaces.{Recodes, struct_places, laid}
use denote.Model.Placed.{view_places}
use denote.Param.Weighed.{Weighed, w_list, w_pair, w_const, w_via}
use denote.RattleType.{RattleType}
use mathlib.Core.Bool.{Bool-set}
use mathlib.Core.Former.{Former, this, const, pair, list, via, children}
use mathlib.Core.List.{List, [], ◌∷◌, map}
use mathlib.Core.Path.{◌≡◌, refl, sym, ap, subst}
use Prim.Native.Nat.{ℕ}
use Rattle.std.specs.Coded.{coded_list, coded_ℕ}
use Rattle.std.specs.Prelude.{IsTrue}
use Rattle.esto_term.specs.formers.list.List as stored
use Rattle.esto_docmodel.specs.Names.{names_of, rise, field_code}
use Rattle.esto_docmodel.specs.contracts.field.FieldOf as field
use Rattle.esto_docmodel.specs.contracts.fields.Fields as contract
use Rattle.esto_docmodel.specs.contracts.fields.Fields.TheInside as inner
use Rattle.esto_docmodel.specs.declared.field.FieldOf.{FieldOf}
use Rattle.esto_docmodel.specs.declared.fields.Fields.TheInside.{Inside}
use Rattle.esto_docmodel.specs.declared.fields.Fields.TheView.{view, invariant}

-- A field is a name and what stands there.
abbrev pub named : Former {0} → Former {0}
named former = via (pair (const (List ℕ)) former) (λ X. FieldOf (former.Of X)) (λ X it. (it.name, it.tree)) (λ X it. record { name = it.0; tree = it.1 })
    (λ X it. refl) (λ X it. refl)

-- Seen from outside, fields are the plain list of them.
abbrev pub the_former : Former {0} → Former {0}
the_former former = list (named former)

-- They weigh as much as the heaviest thing that stands at one of them.
abbrev pub the_weighed : {former : Former {0}} → Weighed former → Weighed (the_former former)
the_weighed {former} weighed = w_list
    (w_via (w_pair (w_const (List ℕ)) weighed) (λ X. FieldOf (former.Of X)) (λ X it. (it.name, it.tree)) (λ X it. record { name = it.0; tree = it.1 })
    (λ X it. refl) (λ X it. refl))

-- There are fields even where there is nothing to hold, so a recursion can begin at them.
pub the_empty : List (FieldOf ⊥)
the_empty = []

-- What stands at the fields, in order.
abbrev pub the_items : (X : Type 0) → List (FieldOf X) → List X
the_items X [] = []
the_items X (first ∷ rest) = first.tree ∷ the_items X rest

-- And it is what the former finds in them.
pub the_items_listed : (X : Type 0) (fields : List (FieldOf X)) → listed _ (children (the_former this) X fields) ≡ the_items X fields
the_items_listed X [] = refl
the_items_listed X (first ∷ rest) = ap (λ others. first.tree ∷ others) (the_items_listed X rest)

-- Inside, fields are a struct of one field, a list.
abbrev inside : Former {0}
inside = via (stored.the_former (named this)) Inside (λ X whole. whole.fields) (λ X fields. record { fields = fields }) (λ X whole. refl) (λ X fields. refl)

-- The field with what a map makes of the thing that stands there.
abbrev over_field : {X Y : Type 0} → (X → Y) → FieldOf X → FieldOf Y
over_field h it = record { name = it.name; tree = h it.tree }

same_names : {X Y : Type 0} (h : X → Y) (fields : List (FieldOf X)) → names_of (map (over_field h) fields) ≡ names_of fields
same_names h [] = refl
same_names h (first ∷ rest) = ap (λ names. first.name ∷ names) (same_names h rest)

-- Two lists of fields whose things are alike in memory, along a map of the things, are alike along the map of the lists.
module _ (R S : RattleType) (h : R.Denot → S.Denot) where
  field_places : Alike R S h → Alike (field.the_row R) (field.the_row S) (over_field h)
  field_places alike =
      struct_places (field.the_type R) (field.the_type S) ((λ name. name), (h, tt)) (over_field h) (λ d. refl) refl
      ((refl, (λ n. refl, λ n. refl)), (laid _ _ _ alike, tt))

  pub the_places : Alike R S h → Alike (contract.the_row R) (contract.the_row S) ((the_former this).map R.Denot S.Denot h)
  the_places alike =
      view_places inside (the_former this) view (λ X Y k u. refl) (λ X u. refl) R.Denot S.Denot h (contract.the_row R).coded (contract.the_row S).coded
      (invariant R.Denot) (invariant S.Denot) (λ u. Bool-set _ _) (λ u. Bool-set _ _)
      (λ u it. subst (λ names. IsTrue (rise names)) (sym (same_names h u.fields)) it) (λ u it. subst (λ names. IsTrue (rise names)) (same_names h u.fields) it)
      (over (inner.the_row R)) (over (inner.the_row S))
      (struct_places (inner.the_type R) (inner.the_type S) (map (over_field h), tt) _ (λ d. refl) refl
      (laid _ _ _ (stored.the_places (field.the_row R) (field.the_row S) (over_field h) (field_places alike)), tt))

  -- The same holds of the codes by which a proof tells values apart.
  pub the_codes_placed : Recodes R S h → Recodes (contract.the_row R) (contract.the_row S) ((the_former this).map R.Denot S.Denot h)
  the_codes_placed recodes code =
      sym (code_map (field_code R.coded).code (field_code S.coded).code (over_field h)
      (λ x i. gcons ((coded_list coded_ℕ).code x.name) (sym (recodes x.tree) i)) code)
