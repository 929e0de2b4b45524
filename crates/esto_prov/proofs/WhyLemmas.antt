-- Derivations, one after the other.
use Rattle.std.proofs.Common.{◌≡◌, ◌<◌, ◌+◌, ℕ, List, [], ◌∷◌, ◌++◌, length, take, get_or, Contains, sym, subst, arith, inl, inr, length-append}
use Rattle.std.proofs.lemmas.List.{take_more, length-take-le, get_or_default}
use Rattle.std.proofs.lemmas.Option.{slice_get_within}
use Rattle.esto_term.proofs.ListLemmas.{at_pushed}
use Rattle.esto_term.proofs.PlaceLemmas.{item_at}
use Rattle.esto_chase_laws.specs.Derived.{IsUnion}
use Rattle.esto_chase_laws.specs.WorldLaws.{IsReasoned, AreReasoned}
use Rattle.esto_chase_laws.specs.declared.entry.Entry.{Entry}
use Rattle.esto_chase_laws.specs.declared.entry.Reason.{Reason}
use Rattle.esto_chase_laws.specs.declared.entry.Reason.TheVariants as reason
use Rattle.esto_prov.specs.Derivations.{HasReason, IsWhy, AreWhys}
use Rattle.esto_prov.specs.declared.why.Why.{Why}

module _ (entries : List Entry) where
  AreWhys-push : (places : List ℕ) (whys : List Why) (place : ℕ) (why : Why) → AreWhys entries places whys → IsWhy entries place why
      → AreWhys entries (places ++ place ∷ []) (whys ++ why ∷ [])
  AreWhys-push places whys place why are is = record {
    as_many = omega (arith, are.as_many, length-append places (place ∷ []), length-append whys (why ∷ []));
    each = λ part its own at at_why. elim (at_pushed places place part its at) [
      | inl there ↦
          let within = slice_get_within places part its there in
          elim (at_pushed whys why part own at_why) [
            | inl there_why ↦ are.each part its own there there_why
            | inr last ↦ absurd (omega (arith, within, are.as_many, last.0))
          ]
      | inr last ↦ elim (at_pushed whys why part own at_why) [
        | inl there_why ↦ let within = slice_get_within whys part own there_why in absurd (omega (arith, within, are.as_many, last.0))
        | inr last_why ↦ subst (λ it. IsWhy entries it own) last.1 (subst (IsWhy entries place) last_why.1 is)
      ]
    ];
  }

  pub whys_more : (places : List ℕ) (whys later : List Why) (count : ℕ) (why : Why) → count < length places → AreWhys entries (take count places) whys
      → IsWhy entries (get_or places count 0) why → later ≡ whys ++ why ∷ [] → AreWhys entries (take (count + 1) places) later
  whys_more places whys later count why within are is grown =
      subst (AreWhys entries (take (count + 1) places)) (sym grown)
      (subst (λ it. AreWhys entries it (whys ++ why ∷ [])) (sym (take_more places count 0 within))
      (AreWhys-push (take count places) whys (get_or places count 0) why are is))

-- ---- the reason of an entry

pub has_reason : (entries : List Entry) (at : ℕ) (entry : Entry) (its : Reason) → at < length entries → entry ≡ get_or entries at entry → entry.reason ≡ its
    → HasReason entries at its
has_reason entries at entry its within read is = (entry, item_at entries at entry within read, is)

-- the places that a reason names are below that of its entry
named_below : (entries : List Entry) (at : ℕ) (entry : Entry) (places : List ℕ) → at < length entries → IsUnion (take at entries) places entry.product
    → (place : ℕ) → Contains places place → place < at
named_below entries at entry places within union place inside = omega (arith, union.there place inside, length-take-le at entries (omega (arith, within)))

pub below_step : (entries : List Entry) (at : ℕ) (entry : Entry) (number : ℕ) (places items : List ℕ) → at < length entries → entry ≡ get_or entries at entry
    → entry.reason ≡ reason.Step number places → items ≡ places → AreReasoned entries → (place : ℕ) → Contains items place → place < at
below_step entries at entry number places items within read is same reasoned place inside =
    named_below entries at entry places within
    (subst (IsReasoned (take at entries) entry.product) is (reasoned.reasoned at entry (item_at entries at entry within read)))
    place (subst (λ it. Contains it place) same inside)

pub below_chain : (entries : List Entry) (at : ℕ) (entry : Entry) (places items : List ℕ) → at < length entries → entry ≡ get_or entries at entry
    → entry.reason ≡ reason.Equal places → items ≡ places → AreReasoned entries → (place : ℕ) → Contains items place → place < at
below_chain entries at entry places items within read is same reasoned place inside =
    named_below entries at entry places within
    (subst (IsReasoned (take at entries) entry.product) is (reasoned.reasoned at entry (item_at entries at entry within read)))
    place (subst (λ it. Contains it place) same inside)

-- a place of the list is below the bound
pub place_below : (places : List ℕ) (index bound : ℕ) → index < length places → ((place : ℕ) → Contains places place → place < bound)
    → get_or places index 0 < bound
place_below places index bound within below = below (get_or places index 0) (index, within, get_or_default places index (get_or places index 0) 0 within)
