-- The products of a claim, entry by entry.
use Rattle.std.proofs.Common.{◌≡◌, ◌↔◌, ◌⊎◌, ◌<◌, ◌≤◌, ◌+◌, ℕ, Bool, List, [], ◌∷◌, ◌++◌, length, take, get_or, Contains, sym, ap, ◌∙◌, subst, inl, inr}
use Rattle.std.proofs.lemmas.List.{take_all}
use Rattle.std.proofs.lemmas.List.Elements.{All-nil, All-push, Contains-append_left, Contains-push, Contains-push_cases}
use Rattle.esto_term.proofs.ListLemmas.{Contains-nil, Contains-head}
use Rattle.esto_term.proofs.PlaceLemmas.{take-item}
use Rattle.esto_term.specs.Sets.{IsMinimal, AreMinimal}
use Rattle.esto_bits.specs.Kept.{AreOver, OneMoreIsMinimal, KeptAreMinimal}
use Rattle.esto_chase_laws.specs.Claims.{AreSameClaim}
use Rattle.esto_chase_laws.specs.WorldLaws.{AreReasoned}
use Rattle.esto_chase_laws.specs.declared.entry.Claim.{Claim}
use Rattle.esto_chase_laws.specs.declared.entry.Entry.{Entry}
use Rattle.esto_prov.specs.Products.{count_of, IsProductOf, AddsProduct}

pub product_count : (entries : List Entry) (entry : Entry) → AreReasoned entries → Contains entries entry → length entry.product ≡ count_of entries
product_count [] entry reasoned inside = absurd (Contains-nil entry inside)
product_count (first ∷ rest) entry reasoned inside = reasoned.counted entry first inside (Contains-head first rest)

IsMinimal-same : (P Q : List Bool → Type 0) → ((set : List Bool) → P set ↔ Q set) → (set : List Bool) → IsMinimal P set → IsMinimal Q set
IsMinimal-same P Q same set (holds, least) = ((same set).0 holds, (λ other other_holds within. least other ((same other).1 other_holds) within))

-- the sets are the minimal ones of a family of the entries' products
pub record AreKept (claim : Claim) (count : ℕ) (entries : List Entry) (sets : List (List Bool)) : Type 0 where
  pub family : List (List Bool)
  pub exact : (set : List Bool) → Contains family set ↔ IsProductOf entries claim set
  pub over : AreOver count family
  pub minimal : AreMinimal family sets

module _ (claim : Claim) (count : ℕ) where
  pub kept_none : KeptAreMinimal → (sets : List (List Bool)) → sets ≡ [] → AreKept claim count [] sets
  kept_none all sets none = subst (AreKept claim count []) (sym none) (record {
    family = [];
    exact = λ set. ((λ inside. absurd (Contains-nil set inside)), (λ (entry, inside, same, is). absurd (Contains-nil entry inside)));
    over = over_none;
    minimal = all count [] over_none;
  })
    where
      over_none : AreOver count []
      over_none = All-nil (λ set. length set ≡ count)

  over_push : (family : List (List Bool)) (set : List Bool) → AreOver count family → length set ≡ count → AreOver count (family ++ set ∷ [])
  over_push family set over is = All-push (λ it. length it ≡ count) family set over is

  product_cases : (entries : List Entry) (entry : Entry) (set : List Bool) → IsProductOf (entries ++ entry ∷ []) claim set
      → IsProductOf entries claim set ⊎ (AreSameClaim entry.claim claim × (entry.product ≡ set))
  product_cases entries entry set (it, inside, same, is) = elim (Contains-push_cases entries entry it inside) [
    | inl before ↦ inl (it, before, same, is)
    | inr last ↦ inr (subst (λ (its : Entry). AreSameClaim its.claim claim) (sym last) same, ap (λ (its : Entry). its.product) last ∙ is)
  ]

  product_before : (entries : List Entry) (entry : Entry) (set : List Bool) → IsProductOf entries claim set → IsProductOf (entries ++ entry ∷ []) claim set
  product_before entries entry set (it, inside, same, is) = (it, Contains-append_left entries (entry ∷ []) it inside, same, is)

  kept_push : OneMoreIsMinimal → (entries : List Entry) (entry : Entry) (sets later : List (List Bool)) → AreKept claim count entries sets
      → length entry.product ≡ count → AddsProduct entry claim sets later → AreKept claim count (entries ++ entry ∷ []) later
  kept_push one_more entries entry sets later kept counted (inl (same, is)) = subst (AreKept claim count (entries ++ entry ∷ [])) (sym is) (record {
    family = kept.family ++ entry.product ∷ [];
    exact = λ set. (
      (λ inside. elim (Contains-push_cases kept.family entry.product set inside) [
        | inl before ↦ product_before entries entry set ((kept.exact set).0 before)
        | inr last ↦ (entry, Contains-push entries entry, same, last)
      ]),
      (λ product. elim (product_cases entries entry set product) [
        | inl before ↦ Contains-append_left kept.family (entry.product ∷ []) set ((kept.exact set).1 before)
        | inr last ↦ subst (Contains (kept.family ++ entry.product ∷ [])) last.1 (Contains-push kept.family entry.product)
      ]),
    );
    over = over_push kept.family entry.product kept.over counted;
    minimal = one_more count kept.family sets entry.product kept.over counted kept.minimal;
  })
  kept_push one_more entries entry sets later kept counted (inr (other, is)) = subst (AreKept claim count (entries ++ entry ∷ [])) (sym is) (record {
    family = kept.family;
    exact = λ set. (
      (λ inside. product_before entries entry set ((kept.exact set).0 inside)),
      (λ product. elim (product_cases entries entry set product) [
        | inl before ↦ (kept.exact set).1 before
        | inr last ↦ absurd (other last.0)
      ]),
    );
    over = kept.over;
    minimal = kept.minimal;
  })

  pub kept_more : OneMoreIsMinimal → (entries : List Entry) (place : ℕ) (entry : Entry) (sets later : List (List Bool)) → place < length entries
      → entry ≡ get_or entries place entry → AreKept claim count (take place entries) sets → length entry.product ≡ count
      → AddsProduct entry claim sets later → AreKept claim count (take (place + 1) entries) later
  kept_more one_more entries place entry sets later within read kept counted adds =
      let taken : take (place + 1) entries ≡ take place entries ++ entry ∷ [] =
      take-item entries place entry within read in
      subst (λ it. AreKept claim count it later) (sym taken) (kept_push one_more (take place entries) entry sets later kept counted adds)

  pub kept_all : (entries : List Entry) (place : ℕ) (sets : List (List Bool)) → length entries ≤ place → AreKept claim count (take place entries) sets
      → (set : List Bool) → Contains sets set ↔ IsMinimal (IsProductOf entries claim) set
  kept_all entries place sets past kept set = (
    (λ inside. IsMinimal-same (Contains kept.family) (IsProductOf entries claim) same set ((kept.minimal.exact set).0 inside)),
    (λ minimal. (kept.minimal.exact set).1 (IsMinimal-same (IsProductOf entries claim) (Contains kept.family) (λ it. ((same it).1, (same it).0)) set minimal)),
  )
    where
      same : (it : List Bool) → Contains kept.family it ↔ IsProductOf entries claim it
      same it = subst (λ all. Contains kept.family it ↔ IsProductOf all claim it) (take_all place entries past) (kept.exact it)
