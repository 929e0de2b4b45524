-- Rows of fragments, opened one by one.
use Rattle.std.proofs.Common.{◌≡◌, ◌↔◌, ◌⊎◌, inl, inr, ℕ, zero, suc, ◌<◌, List, [], ◌∷◌, ◌++◌, length, map, set, Some, slice_get, Contains, refl, sym, ap, ◌∙◌}
use Rattle.std.proofs.Common.{subst, arith}
use Rattle.std.proofs.lemmas.Bool.{cases_order}
use Rattle.std.proofs.lemmas.List.{get_or-set_other, get_or-set_same, length-map, map-set}
use Rattle.std.proofs.lemmas.List.Elements.{Contains-push_cases}
use Rattle.std.proofs.lemmas.Option.{same_Some, slice_get_within}
use Rattle.esto_docmodel.specs.declared.file.Store.{Store}
use Rattle.esto_steps.specs.Rows.{held_by}
use Rattle.esto_stores.specs.Rows.{Row}
use Rattle.esto_term.proofs.ListLemmas.{Contains-nil, map_at, map_then}
use Rattle.esto_views.specs.declared.fragments.FragmentDef.{FragmentDef}
use Rattle.esto_run.specs.Opened.{Held, AreRowsFor, AreOpened, rows_held, shape_of, unopened}
use Rattle.esto_docs.specs.Stores.{HaveWidth, IsRowIn, IsFileRow}

-- ---- no rows

none_held : (fragments : List FragmentDef) (number : ℕ) → held_by (rows_held (map unopened fragments)) number ≡ []
none_held [] number = refl
none_held (first ∷ rest) zero = refl
none_held (first ∷ rest) (suc number) = none_held rest number

pub rows_for_none : (fragments : List FragmentDef) (opened : List Held) → opened ≡ map unopened fragments → AreRowsFor fragments opened
rows_for_none fragments opened are = record {
  shapes = ap (map (λ held. held.shape)) are ∙ map_then unopened (λ held. held.shape) fragments;
  wide = λ number fragment at row inside. absurd (Contains-nil row (subst (λ them. Contains them row)
      (ap (λ them. held_by (rows_held them) number) are ∙ none_held fragments number) inside));
}

-- ---- the rows of one fragment more

-- what is there already is put in its place
set_same : {X : Type 0} (xs : List X) (place : ℕ) (x : X) → slice_get xs place ≡ Some x → set xs place x ≡ xs
set_same [] place x at = refl
set_same (first ∷ rest) zero x at = let is : first ≡ x = cc in ap (λ it. it ∷ rest) (sym is)
set_same (first ∷ rest) (suc place) x at = ap (λ them. first ∷ them) (set_same rest place x at)

pub held_many : (fragments : List FragmentDef) (opened : List Held) → AreRowsFor fragments opened → length opened ≡ length fragments
held_many fragments opened are = sym (length-map opened (λ held. held.shape)) ∙ ap length are.shapes ∙ length-map fragments shape_of

module _ (old new : List (List Row)) (number : ℕ) (rows : List Row) (below : number < length old) (is : new ≡ set old number rows) where
  here : held_by new number ≡ rows
  here = ap (λ them. held_by them number) is ∙ get_or-set_same old number rows [] below

  pub elsewhere : (other : ℕ) → (other ≡ number → ⊥) → held_by new other ≡ held_by old other
  elsewhere other apart = ap (λ them. held_by them other) is ∙ get_or-set_other old number other rows [] apart

  wide_set : (fragments : List FragmentDef) (fragment : FragmentDef) → slice_get fragments number ≡ Some fragment → HaveWidth (length fragment.view.head) rows
      → ((other : ℕ) (its : FragmentDef) → slice_get fragments other ≡ Some its → HaveWidth (length its.view.head) (held_by old other))
      → (other : ℕ) (its : FragmentDef) → slice_get fragments other ≡ Some its → HaveWidth (length its.view.head) (held_by new other)
  wide_set fragments fragment at own wide other its found = elim (cases_order other number) [
    | inl same ↦
        let one : fragment ≡ its = same_Some fragment its (sym at ∙ ap (slice_get fragments) (sym same) ∙ found) in
        subst (λ (it : FragmentDef). HaveWidth (length it.view.head) (held_by new other)) one
        (subst (HaveWidth (length fragment.view.head)) (sym here ∙ ap (held_by new) (sym same)) own)
    | inr apart ↦ subst (HaveWidth (length its.view.head)) (sym (elsewhere other (away apart))) (wide other its found)
  ]
    where
      away : (other < number) ⊎ (number < other) → other ≡ number → ⊥
      away (inl less) same = omega (arith, less, same)
      away (inr more) same = omega (arith, more, same)

  module _ (stores : List Store) (files : ℕ → List ℕ) (store : Store) (stored : slice_get stores number ≡ Some store)
      (exact : (row : Row) → Contains rows row ↔ IsRowIn store.shape (files number) row) where
    at_number : (row : Row)
        → Contains (held_by new number) row ↔ ((own : Store) × (slice_get stores number ≡ Some own) × IsRowIn own.shape (files number) row)
    at_number row = (
      (λ inside. (store, stored, (exact row).0 (subst (λ them. Contains them row) here inside))),
      (λ (own, at, is_row). subst (λ them. Contains them row) (sym here)
          ((exact row).1 (subst (λ (it : Store). IsRowIn it.shape (files number) row) (same_Some own store (sym at ∙ stored)) is_row))),
    )

    pub opened_more : (numbers : List ℕ) → AreOpened stores files numbers old → AreOpened stores files (numbers ++ number ∷ []) new
    opened_more numbers are fact inside = elim (cases_order fact.relation number) [
      | inl same ↦ subst (λ n. Contains (held_by new n) fact.terms
          ↔ ((own : Store) × (slice_get stores n ≡ Some own) × IsRowIn own.shape (files n) fact.terms)) (sym same) (at_number fact.terms)
      | inr apart ↦ elim (Contains-push_cases numbers number fact.relation inside) [
        | inl there ↦ subst (λ them. Contains them fact.terms ↔ IsFileRow stores files fact) (sym (elsewhere fact.relation (away apart))) (are fact there)
        | inr last ↦ absurd (away apart (sym last))
      ]
    ]
      where
        away : (fact.relation < number) ⊎ (number < fact.relation) → fact.relation ≡ number → ⊥
        away (inl less) same = omega (arith, less, same)
        away (inr more) same = omega (arith, more, same)

-- the rows of one fragment are put in their place
module _ (fragments : List FragmentDef) (old new : List Held) (number : ℕ) (fragment : FragmentDef) (rows : List Row)
    (is : new ≡ set old number (record { shape = shape_of fragment; rows = rows })) where
  pub rows_are_set : rows_held new ≡ set (rows_held old) number rows
  rows_are_set = ap rows_held is ∙ map-set (λ held. held.rows) old number (record { shape = shape_of fragment; rows = rows })

  pub rows_put : slice_get fragments number ≡ Some fragment → HaveWidth (length fragment.view.head) rows → AreRowsFor fragments old → AreRowsFor fragments new
  rows_put at own are = record {
    shapes = ap (map (λ held. held.shape)) is ∙ map-set (λ held. held.shape) old number (record { shape = shape_of fragment; rows = rows })
        ∙ ap (λ them. set them number (shape_of fragment)) are.shapes
        ∙ set_same (map shape_of fragments) number (shape_of fragment) (map_at shape_of fragments number fragment at);
    wide = wide_set (rows_held old) (rows_held new) number rows
        (let within = slice_get_within fragments number fragment at in let many = held_many fragments old are in
        let long = length-map old (λ held. held.rows) in omega (arith, within, many, long))
        rows_are_set fragments fragment at own are.wide;
  }
