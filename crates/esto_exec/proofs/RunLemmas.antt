-- The run, get by get.
use Rattle.std.proofs.Common.{◌≡◌, ◌↔◌, ℕ, ◌<◌, List, [], ◌∷◌, map, length, get_or, Some, slice_get, Contains, sym, ap}
use Rattle.std.proofs.Common.{◌∙◌, subst, arith}
use Rattle.std.proofs.lemmas.List.{length-map, get_or-map}
use Rattle.std.proofs.lemmas.Option.{same_Some, slice_get_within}
use Rattle.esto_term.proofs.ListLemmas.{Contains-at}
use Rattle.esto_term.proofs.ListLemmas.{map_at}
use Rattle.esto_term.proofs.PlaceLemmas.{item_at}
use Rattle.esto_columns.specs.Asked.{Shape, IsAllowed}
use Rattle.esto_steps.specs.declared.steps.Link.{Link}
use Rattle.esto_steps.specs.declared.steps.Get.{Get}
use Rattle.esto_steps.specs.declared.steps.Source.{Source}
use Rattle.esto_steps.specs.Meaning.{Follows}
use Rattle.esto_steps.specs.Rows.{IsRowOf}
use Rattle.esto_steps.specs.Joined.{IsJoin, IsKept}
use Rattle.esto_exec.specs.Runnable.{AreRunnable}

-- ---- rows that are asked for serve as well as all

pub join_asked : (get : Get) (kept : List Source) (so_far rows asked new : List (List ℕ)) → ((row : List ℕ) → Contains asked row → Contains rows row)
    → ((cells row : List ℕ) → Contains so_far cells → Contains rows row → Follows get cells row → Contains asked row)
    → ((row : List ℕ) → Contains new row ↔ IsKept kept (IsJoin get so_far asked) row) → (row : List ℕ)
    → Contains new row ↔ IsKept kept (IsJoin get so_far rows) row
join_asked get kept so_far rows asked new sound complete joins row = (
  λ there. let (both, join, names) = (joins row).0 there in (both, (join.0, join.1, join.2, sound join.1 join.3, join.4, join.5), names),
  λ has. let (both, join, names) = has in
      (joins row).1 (both, (join.0, join.1, join.2, complete join.0 join.1 join.2 join.3 join.4, join.4, join.5), names),
)

-- ---- where nothing is asked by

pub none_allowed : (shape : Shape) (links : List Link) → length links ≡ 0 → IsAllowed shape (map (λ (link : Link). link.column) links)
    → IsAllowed shape []
none_allowed shape [] none allowed = allowed
none_allowed shape (link ∷ links) none allowed = absurd (omega (arith, none))

-- ---- the fragments

module _ {T : Type 0} (shape : T → Shape) (rows : T → List (List ℕ)) (fragments : List T) where
  pub fragment_there : (gets : List Get) (number : ℕ) (get : Get) → slice_get gets number ≡ Some get → AreRunnable (map shape fragments) gets
      → get.fragment < length fragments
  fragment_there gets number get there runnable =
      let found = runnable get (Contains-at gets number get there) in
      let inside = slice_get_within (map shape fragments) get.fragment found.0 found.1 in let long = length-map fragments shape in omega (arith, inside, long)

  pub fragment_allows : (gets : List Get) (number : ℕ) (get : Get) (fragment : T) → slice_get gets number ≡ Some get
      → AreRunnable (map shape fragments) gets → fragment ≡ get_or fragments get.fragment fragment
      → IsAllowed (shape fragment) (map (λ link. link.column) get.inputs)
  fragment_allows gets number get fragment there runnable at =
      let found = runnable get (Contains-at gets number get there) in
      let in_place : slice_get fragments get.fragment ≡ Some fragment =
      item_at fragments get.fragment fragment (fragment_there gets number get there runnable) at in
      subst (λ it. IsAllowed it (map (λ link. link.column) get.inputs))
      (same_Some found.0 (shape fragment) (sym found.1 ∙ map_at shape fragments get.fragment fragment in_place)) found.2

  pub fragment_rows : (number : ℕ) (fragment : T) → number < length fragments → fragment ≡ get_or fragments number fragment → (row : List ℕ)
      → Contains (rows fragment) row ↔ IsRowOf (λ it. get_or (map rows fragments) it []) (record { relation = number; terms = row })
  fragment_rows number fragment below at row =
      let same : get_or (map rows fragments) number [] ≡ rows fragment = get_or-map rows fragments number fragment [] below ∙ ap rows (sym at) in
      ((λ has. subst (λ them. Contains them row) (sym same) has), (λ has. subst (λ them. Contains them row) same has))
