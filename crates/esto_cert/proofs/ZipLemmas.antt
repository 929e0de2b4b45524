-- Steps of walks over two lists, place by place.
use Rattle.std.proofs.Common.{◌≡◌, ◌↔◌, ℕ, ◌+◌, ◌<◌, ◌≤◌, List, [], ◌∷◌, drop, length, get_or, subst, sym, arith}
use Rattle.std.specs.List.{AllZip}
use Rattle.std.proofs.lemmas.List.{drop_all}
use Rattle.esto_term.proofs.PlaceLemmas.{drop-item}

module _ {A B : Type 0} (R : A → B → Type 0) where
  module _ (xs : List A) (ys : List B) (place : ℕ) (left : AllZip R (drop place xs) (drop place ys) ↔ AllZip R xs ys) where
    module _ (x : A) (y : B) (within : place < length xs) (within_y : place < length ys) (is : x ≡ get_or xs place x) (is_y : y ≡ get_or ys place y) where
      here_to : R x y × AllZip R (drop (place + 1) xs) (drop (place + 1) ys) → AllZip R (drop place xs) (drop place ys)
      here_to both = subst (λ it. AllZip R it (drop place ys)) (sym (drop-item xs place x within is))
          (subst (λ it. AllZip R (x ∷ drop (place + 1) xs) it) (sym (drop-item ys place y within_y is_y)) both)

      here_from : AllZip R (drop place xs) (drop place ys) → R x y × AllZip R (drop (place + 1) xs) (drop (place + 1) ys)
      here_from all = subst (λ it. AllZip R (x ∷ drop (place + 1) xs) it) (drop-item ys place y within_y is_y)
          (subst (λ it. AllZip R it (drop place ys)) (drop-item xs place x within is) all)

      pub zip_goes : R x y → AllZip R (drop (place + 1) xs) (drop (place + 1) ys) ↔ AllZip R xs ys
      zip_goes holds = ((λ rest. left.0 (here_to (holds, rest))), (λ all. (here_from (left.1 all)).1))

      pub zip_fails : ¬ (R x y) → ¬ (AllZip R xs ys)
      zip_fails wrong all = wrong (here_from (left.1 all)).0

    pub zip_ends : length xs ≡ length ys → length xs ≤ place → AllZip R xs ys
    zip_ends same past = left.0 (subst (λ it. AllZip R it (drop place ys)) (sym (drop_all place xs past))
        (subst (λ it. AllZip R [] it) (sym (drop_all place ys (omega (arith, past, same)))) tt))
