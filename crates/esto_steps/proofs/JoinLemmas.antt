-- Joins, row by row.
use Rattle.std.proofs.Common.{◌≡◌, ◌⊎◌, ◌↔◌, inl, inr, ℕ, ◌+◌, ◌<◌, ◌≤◌, List, [], ◌∷◌, ◌++◌, length, get_or, take, Some, slice_get, Contains, refl, sym, ap}
use Rattle.std.proofs.Common.{◌∙◌, subst, arith}
use Rattle.std.proofs.lemmas.List.{take_all}
use Rattle.std.proofs.lemmas.List.Elements.{Contains-append_left, Contains-push, Contains-push_cases}
use Rattle.std.proofs.lemmas.Option.{same_Some, slice_get_within}
use Rattle.esto_term.proofs.ListLemmas.{Contains-nil}
use Rattle.esto_term.proofs.PlaceLemmas.{take-item}
use Rattle.esto_steps.specs.declared.steps.Get.{Get}
use Rattle.esto_steps.specs.declared.steps.Source.{Source}
use Rattle.esto_steps.specs.Meaning.{Follows}
use Rattle.esto_steps.specs.Joined.{IsJoin, IsFollower, IsFollowerAt, IsKept, GainsOnly}
use Rattle.esto_steps.specs.Named.{NamesCodes}
use Rattle.esto_steps.proofs.NamedLemmas.{one_key}

-- ---- one more thing of a list

pub taken_more : {X : Type 0} (things : List X) (count : ℕ) (thing it : X) → count < length things → thing ≡ get_or things count thing
    → Contains (take (count + 1) things) it ↔ (Contains (take count things) it ⊎ (thing ≡ it))
taken_more things count thing it below is =
    let more : take (count + 1) things ≡ take count things ++ thing ∷ [] =
    take-item things count thing below is in (
      λ has. Contains-push_cases (take count things) thing it (subst (λ xs. Contains xs it) more has),
      λ has. subst (λ xs. Contains xs it) (sym more) (elim has [
        | inl before ↦ Contains-append_left (take count things) (thing ∷ []) it before
        | inr same ↦ subst (Contains (take count things ++ thing ∷ [])) same (Contains-push (take count things) thing)
      ]),
    )

-- what a list gains over some things, one by one
module _ {X : Type 0} (Has : X → List ℕ → Type 0) (things : List X) where
  abbrev pub Some_has : List X → List ℕ → Type 0
  Some_has some it = (x : X) × Contains some x × Has x it

  pub gains_more : (start old new : List (List ℕ)) (count : ℕ) (thing : X) → count < length things → thing ≡ get_or things count thing
      → GainsOnly start old (Some_has (take count things)) → GainsOnly old new (Has thing)
      → GainsOnly start new (Some_has (take (count + 1) things))
  gains_more start old new count thing below is before gains it = (
    λ has. elim ((gains it).0 has) [
      | inl in_old ↦ elim ((before it).0 in_old) [
        | inl in_start ↦ inl in_start
        | inr (x, among, of_x) ↦ inr (x, (taken_more things count thing x below is).1 (inl among), of_x)
      ]
      | inr of_thing ↦ inr (thing, (taken_more things count thing thing below is).1 (inr refl), of_thing)
    ],
    λ has. (gains it).1 (elim has [
      | inl in_start ↦ inl ((before it).1 (inl in_start))
      | inr (x, among, of_x) ↦ elim ((taken_more things count thing x below is).0 among) [
        | inl earlier ↦ inl ((before it).1 (inr (x, earlier, of_x)))
        | inr same ↦ inr (subst (λ y. Has y it) (sym same) of_x)
      ]
    ]),
  )

  pub gains_all : (start new : List (List ℕ)) (count : ℕ) → length things ≤ count → GainsOnly start new (Some_has (take count things))
      → GainsOnly start new (Some_has things)
  gains_all start new count past gains = subst (λ xs. GainsOnly start new (Some_has xs)) (take_all count things past) gains

-- ---- followers

pub follower_kept : (get : Get) (kept : List Source) (cells : List ℕ) (rows old new : List (List ℕ)) (place : ℕ) (row both given : List ℕ)
    → slice_get rows place ≡ Some row → Follows get cells row → both ≡ cells ++ row → NamesCodes both kept given
    → GainsOnly old new (λ it. given ≡ it) → GainsOnly old new (IsKept kept (IsFollowerAt get cells rows place))
follower_kept get kept cells rows old new place row both given at follows is named gains it = (
  λ has. elim ((gains it).0 has) [
    | inl before ↦ inl before
    | inr same ↦ inr (both, (row, at, follows, is), subst (NamesCodes both kept) same named)
  ],
  λ has. (gains it).1 (elim has [
    | inl before ↦ inl before
    | inr (other, (other_row, at_place, also, other_is), names) ↦
        let same : other_row ≡ row = same_Some other_row row (sym at_place ∙ at) in
        let one : other ≡ both = other_is ∙ ap (λ them. cells ++ them) same ∙ sym is in
        inr (one_key both kept given it named (subst (λ them. NamesCodes them kept it) one names))
  ]),
)

-- nothing is gained where no row at the place follows, or what is kept of it is not named
pub follower_none : (get : Get) (kept : List Source) (cells : List ℕ) (rows old : List (List ℕ)) (place : ℕ)
    → ((row : List ℕ) → slice_get rows place ≡ Some row → Follows get cells row → (given : List ℕ) × NamesCodes (cells ++ row) kept given → ⊥)
    → GainsOnly old old (IsKept kept (IsFollowerAt get cells rows place))
follower_none get kept cells rows old place none it = (
  λ has. inl has,
  λ has. elim has [
    | inl before ↦ before
    | inr (both, (row, at, follows, is), names) ↦ absurd (none row at follows (it, subst (λ them. NamesCodes them kept it) is names))
  ],
)

-- nothing is gained at a place past the rows
pub gains_past : (get : Get) (kept : List Source) (cells : List ℕ) (rows old : List (List ℕ)) (place : ℕ) → length rows ≤ place
    → GainsOnly old old (IsKept kept (IsFollowerAt get cells rows place))
gains_past get kept cells rows old place past = follower_none get kept cells rows old place
    (λ row at _ _. let within = slice_get_within rows place row at in omega (arith, within, past))

-- nothing is gained where the row at the place doesn't follow
pub gains_unless : (get : Get) (kept : List Source) (cells : List ℕ) (rows old : List (List ℕ)) (place : ℕ) (row : List ℕ)
    → slice_get rows place ≡ Some row → (Follows get cells row → ⊥) → GainsOnly old old (IsKept kept (IsFollowerAt get cells rows place))
gains_unless get kept cells rows old place row there differs = follower_none get kept cells rows old place
    (λ other at follows _. differs (subst (Follows get cells) (same_Some other row (sym at ∙ there)) follows))

-- ---- joins

pub joins_more : (get : Get) (kept : List Source) (rows old new items : List (List ℕ)) (count : ℕ) (cells : List ℕ) → count < length items
    → cells ≡ get_or items count cells
    → ((row : List ℕ) → Contains old row ↔ IsKept kept (IsJoin get (take count items) rows) row)
    → GainsOnly old new (IsKept kept (IsFollower get cells rows)) → (row : List ℕ)
    → Contains new row ↔ IsKept kept (IsJoin get (take (count + 1) items) rows) row
joins_more get kept rows old new items count cells below is before gains row = (
  λ has. elim ((gains row).0 has) [
    | inl in_old ↦
        let (both, join, names) = (before row).0 in_old in
        (both, (join.0, join.1, (taken_more items count cells join.0 below is).1 (inl join.2), join.3, join.4, join.5), names)
    | inr (both, follower, names) ↦
        (both, (cells, follower.0, (taken_more items count cells cells below is).1 (inr refl), follower.1, follower.2, follower.3), names)
  ],
  λ has. let (both, join, names) = has in
      (gains row).1 (elim ((taken_more items count cells join.0 below is).0 join.2) [
        | inl earlier ↦ inl ((before row).1 (both, (join.0, join.1, earlier, join.3, join.4, join.5), names))
        | inr same ↦ inr (
          both,
          (join.1, join.3, subst (λ it. Follows get it join.1) (sym same) join.4, join.5 ∙ ap (λ it. it ++ join.1) (sym same)),
          names,
        )
      ]),
)

pub joins_all : (get : Get) (kept : List Source) (so_far rows new : List (List ℕ)) (count : ℕ) → length so_far ≤ count
    → ((row : List ℕ) → Contains new row ↔ IsKept kept (IsJoin get (take count so_far) rows) row)
    → (row : List ℕ) → Contains new row ↔ IsKept kept (IsJoin get so_far rows) row
joins_all get kept so_far rows new count past joins =
    subst (λ them. (row : List ℕ) → Contains new row ↔ IsKept kept (IsJoin get them rows) row) (take_all count so_far past) joins

pub joins_none : (get : Get) (kept : List Source) (so_far rows new : List (List ℕ)) → new ≡ [] → (row : List ℕ)
    → Contains new row ↔ IsKept kept (IsJoin get (take 0 so_far) rows) row
joins_none get kept so_far rows new none row = (
  (λ has. absurd (Contains-nil row (subst (λ them. Contains them row) none has))),
  (λ has. absurd (Contains-nil (has.1).0 (has.1).2)),
)
