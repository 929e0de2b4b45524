-- Turns of the loops over places and numbers.
use Rattle.std.proofs.Common.{◌≡◌, inl, inr, ℕ, ◌+◌, ◌<◌, List, [], ◌∷◌, ◌++◌, length, take, drop, get_or, Contains, Result, Ok, Err, IfOk, OnOk, refl, sym, ap}
use Rattle.std.proofs.Common.{◌∙◌}
use Rattle.std.specs.List.{AllZip, flat_map}
use Rattle.std.proofs.lemmas.List.{append_assoc, append-nil, drop_more, take_more}
use Rattle.std.proofs.lemmas.List.Concat.{flat_map-append}
use Rattle.std.proofs.lemmas.List.Elements.{Contains-append_left, Contains-append_right, Contains-append_cases, Contains-get_or}
use Rattle.esto_term.proofs.ListLemmas.{Contains-nil}
use Rattle.esto_semantics.specs.Facts.{terms_of}
use Rattle.esto_semantics.specs.declared.fact.Fact.{Fact}
use Rattle.esto_term.specs.declared.term.Term.{Term}
use Rattle.esto_chase_laws.specs.Derived.{Claims}
use Rattle.esto_chase_laws.specs.declared.entry.Claim.TheVariants.{Fact as Stated}
use Rattle.esto_chase_laws.specs.declared.entry.Entry.{Entry}
use Rattle.esto_derive.specs.Writing.{AddsNew, entry_terms, terms_at, claimed_terms}

-- ---- what places give, one after the other

module _ {X : Type 0} (f : ℕ → List X) (places : List ℕ) (at : ℕ) (within : at < length places) where
  abbrev pub here : ℕ
  here = get_or places at 0

  pub flat_step : (all own new whole : List X) → f here ≡ own → new ≡ all ++ own → all ++ flat_map f (drop at places) ≡ whole
      → new ++ flat_map f (drop (at + 1) places) ≡ whole
  flat_step all own new whole gives pushed so_far =
      ap (λ (it : List X). it ++ flat_map f (drop (at + 1) places)) (pushed ∙ ap (λ (it : List X). all ++ it) (sym gives))
      ∙ append_assoc all (f here) (flat_map f (drop (at + 1) places)) ∙ ap (λ (it : List ℕ). all ++ flat_map f it) (sym (drop_more places at 0 within)) ∙ so_far

  pub flat_taken : flat_map f (take (at + 1) places) ≡ flat_map f (take at places) ++ f here
  flat_taken = ap (flat_map f) (take_more places at 0 within) ∙ flat_map-append f (take at places) (here ∷ [])
      ∙ ap (λ (it : List X). flat_map f (take at places) ++ it) (append-nil (f here))

  -- the place is one of them
  pub here_inside : Contains places here
  here_inside = Contains-get_or places at 0 within

-- ---- numbers that are added once

pub adds_then : (old more mid last new : List ℕ) → AddsNew old more mid → AddsNew mid last new → AddsNew old (more ++ last) new
adds_then old more mid last new first second number = (
  (λ inside. elim ((second number).0 inside) [
    | inl earlier ↦ elim ((first number).0 earlier) [
      | inl before ↦ inl before
      | inr it ↦ inr (Contains-append_left more last number it)
    ]
    | inr it ↦ inr (Contains-append_right more last number it)
  ]),
  (λ either. elim either [
    | inl before ↦ (second number).1 (inl ((first number).1 (inl before)))
    | inr added ↦ elim (Contains-append_cases more last number added) [
      | inl it ↦ (second number).1 (inl ((first number).1 (inr it)))
      | inr it ↦ (second number).1 (inr it)
    ]
  ]),
)

pub adds_nothing : (old : List ℕ) → AddsNew old [] old
adds_nothing old number = ((λ inside. inl inside), (λ either. elim either [ inl inside ↦ inside | inr none ↦ absurd (Contains-nil number none) ]))

-- ---- the terms of facts that are stated

pub terms_stated : (entries : List Entry) (places : List ℕ) (chosen : List (Fact Term))
    → AllZip (λ (place : ℕ) (fact : Fact Term). Claims entries place (Stated fact)) places chosen → terms_at entries places ≡ terms_of chosen
terms_stated entries [] [] stated = refl
terms_stated entries [] (fact ∷ chosen) stated = absurd stated
terms_stated entries (place ∷ places) [] stated = absurd stated
terms_stated entries (place ∷ places) (fact ∷ chosen) ((entry, at, is), stated) =
    ap (λ (it : List Term). it ++ terms_at entries places) (ap entry_terms at ∙ ap claimed_terms is)
    ∙ ap (λ (it : List Term). fact.terms ++ it) (terms_stated entries places chosen stated)

-- ---- what a call's three clauses say together

pub if_ok_with : {A E Q R : Type 0} {P S : A → Type 0} (result : Result A E) → IfOk result P → OnOk result Q → OnOk result R
    → ((it : A) → P it → Q → R → S it) → IfOk result S
if_ok_with (Ok it) holds one other goes = goes it holds one other
if_ok_with (Err error) holds one other goes = tt
