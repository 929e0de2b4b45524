-- Rows found by a test that tells which rows are the same.
use Rattle.std.proofs.Common.{inl, inr, ◌≡◌, ℕ, Bool, true, false, cond, not, List, [], ◌∷◌, ◌++◌, map, Contains, refl, sym, ap, ◌∙◌, subst}
use Rattle.std.proofs.lemmas.Bool.{and_parts, false≢true, and_from}
use Rattle.std.proofs.lemmas.List.{map-append}
use Rattle.std.proofs.lemmas.Slice.Eq.{bytes_eq-Decides}
use Rattle.std.specs.Bool.{Decides}
use Rattle.std.specs.Cmp.Lexicographic.{pointwise}
use Rattle.std.specs.List.{list_any}
use Rattle.std.specs.Prelude.{◌||◌}
use Rattle.std.specs.Str.{bytes_eq}
use Rattle.esto_term.proofs.ListLemmas.{Contains-cases, Contains-head, Contains-nil, Contains-rest}
use Rattle.esto_relmodel.specs.Once.{IsAdded}

-- ---- the test of two rows

module _ {C : Type 0} (bytes : C → List ℕ) where
  same_from : (xs ys : List C) → pointwise (λ x y. bytes_eq (bytes x) (bytes y)) xs ys ≡ true → map bytes xs ≡ map bytes ys
  same_from [] [] told = refl
  same_from [] (y ∷ ys) told = absurd (false≢true told)
  same_from (x ∷ xs) [] told = absurd (false≢true told)
  same_from (x ∷ xs) (y ∷ ys) told =
      let parts = and_parts (bytes_eq (bytes x) (bytes y)) (pointwise (λ a b. bytes_eq (bytes a) (bytes b)) xs ys) told in
      let first = (bytes_eq-Decides (bytes x) (bytes y)).0 parts.0 in
      let rest = same_from xs ys parts.1 in
      λ i. first i ∷ rest i

  heads : {x y : List ℕ} {xs ys : List (List ℕ)} → x ∷ xs ≡ y ∷ ys → x ≡ y
  heads e = cc

  tails : {x y : List ℕ} {xs ys : List (List ℕ)} → x ∷ xs ≡ y ∷ ys → xs ≡ ys
  tails e = cc

  no_cons : {x : List ℕ} {xs : List (List ℕ)} → [] ≡ x ∷ xs → ⊥
  no_cons e = cc

  from_same : (xs ys : List C) → map bytes xs ≡ map bytes ys → pointwise (λ x y. bytes_eq (bytes x) (bytes y)) xs ys ≡ true
  from_same [] [] same = refl
  from_same [] (y ∷ ys) same = absurd (no_cons same)
  from_same (x ∷ xs) [] same = absurd (no_cons (sym same))
  from_same (x ∷ xs) (y ∷ ys) same = and_from (bytes_eq (bytes x) (bytes y)) (pointwise (λ a b. bytes_eq (bytes a) (bytes b)) xs ys)
      ((bytes_eq-Decides (bytes x) (bytes y)).1 (heads same)) (from_same xs ys (tails same))

  -- whether the cells of one row are those of another, whose cells are known
  pub told_from : (xs ys : List C) (wanted : List (List ℕ)) → map bytes xs ≡ wanted
      → Decides (pointwise (λ x y. bytes_eq (bytes x) (bytes y)) xs ys) (map bytes ys ≡ wanted)
  told_from xs ys wanted is = ((λ told. sym (same_from xs ys told) ∙ is), λ same. from_same xs ys (is ∙ sym same))

-- ---- a row among others

module _ {Y Z : Type 0} (seen : Y → Z) (wanted : Z) (test : Y → Bool) (told : (thing : Y) → Decides (test thing) (seen thing ≡ wanted)) where
  among : (things : List Y) → list_any test things ≡ true → Contains (map seen things) wanted
  among [] any = absurd (false≢true any)
  among (first ∷ rest) any = go (λ later. among rest later) (test first) refl
    where
      go : (list_any test rest ≡ true → Contains (map seen rest) wanted) → (b : Bool) → test first ≡ b → Contains (map seen (first ∷ rest)) wanted
      go later true e = subst (Contains (seen first ∷ map seen rest)) ((told first).0 e) (Contains-head (seen first) (map seen rest))
      go later false e = Contains-rest (seen first) (map seen rest) wanted (later (sym (ap (λ b. b || list_any test rest) e) ∙ any))

  passes : (things : List Y) → Contains (map seen things) wanted → list_any test things ≡ true
  passes [] inside = absurd (Contains-nil wanted inside)
  passes (first ∷ rest) inside = elim (Contains-cases (seen first) (map seen rest) wanted inside) [
    | inl is ↦ ap (λ b. b || list_any test rest) ((told first).1 is)
    | inr later ↦ either (test first) (list_any test rest) (passes rest later)
  ] where
    either : (a b : Bool) → b ≡ true → (a || b) ≡ true
    either true b e = refl
    either false b e = e

  pub added : (old new : List Y) (key : Y) (is_new : Bool) → seen key ≡ wanted → is_new ≡ not (list_any test old)
      → new ≡ cond (list_any test old) old (old ++ key ∷ [])
      → IsAdded (map seen old) (map seen new) wanted is_new
  added old new key is_new is told_new grown = go (list_any test old) refl
    where
      go : (b : Bool) → list_any test old ≡ b → IsAdded (map seen old) (map seen new) wanted is_new
      go true e = subst (IsAdded (map seen old) (map seen new) wanted) (sym (told_new ∙ ap not e))
          (among old e, ap (map seen) (grown ∙ ap (λ b. cond b old (old ++ key ∷ [])) e))
      go false e = subst (IsAdded (map seen old) (map seen new) wanted) (sym (told_new ∙ ap not e)) (
        (λ inside. false≢true (sym e ∙ passes old inside)),
        ap (map seen) (grown ∙ ap (λ b. cond b old (old ++ key ∷ [])) e) ∙ map-append seen old (key ∷ []) ∙ ap (λ last. map seen old ++ last ∷ []) is,
      )
