-- Lists that go together place by place.
use Rattle.std.proofs.Common.{◌≡◌, ◌<◌, ◌+◌, ℕ, List, [], ◌∷◌, ◌++◌, length, take, get_or, sym, ap, subst, ◌∙◌, arith}
use Rattle.std.proofs.lemmas.List.{take_more}
use Rattle.std.proofs.lemmas.Slice.Zip.{all_zipped_more}
use Rattle.std.specs.List.{AllZip}

module _ {A B : Type 0} (R : A → B → Type 0) where
  -- one more of the first list, and its own at the end of the second
  pub zip_next : (ones : List A) (others : List B) (place : ℕ) (one : A) (other : B) → place < length ones → one ≡ get_or ones place one
      → AllZip R (take place ones) others → R one other → AllZip R (take (place + 1) ones) (others ++ other ∷ [])
  zip_next ones others place one other below read zip is =
      subst (λ it. AllZip R it (others ++ other ∷ [])) (ap (λ it. take place ones ++ it ∷ []) read ∙ sym (take_more ones place one below))
      (all_zipped_more R (take place ones) others one other zip is)

  -- where there is a thing of the first list, there is one of the second
  pub zip_some : (ones : List A) (others : List B) → AllZip R ones others → 0 < length ones → 0 < length others
  zip_some [] others zip some = absurd (omega (arith, some))
  zip_some (one ∷ ones) [] zip some = absurd zip
  zip_some (one ∷ ones) (other ∷ others) zip some = omega arith
