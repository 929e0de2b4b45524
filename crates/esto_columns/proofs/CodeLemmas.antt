-- Texts that have codes.
use Rattle.std.proofs.Common.{◌≡◌, inl, inr, ℕ, ◌<◌, Bool, cond, List, [], ◌∷◌, ◌++◌, map, length, slice_get, Some, get_or, Contains}
use Rattle.std.proofs.Common.{sym, ap, ◌∙◌, subst, arith}
use Rattle.std.specs.Prelude.{IsUtf8}
use Rattle.std.specs.Bool.{Decides}
use Rattle.std.specs.List.{list_any}
use Rattle.std.proofs.lemmas.List.{length-map, map-append, get_or-map}
use Rattle.std.proofs.lemmas.List.Elements.{Contains-push_cases}
use Rattle.esto_term.proofs.ListLemmas.{map_at}
use Rattle.esto_term.proofs.PlaceLemmas.{item_at}
use Rattle.esto_columns.specs.Interned.{AreTexts}
use Rattle.esto_columns.proofs.NumberLemmas.{grown_by, distinct_grown}

pub texts_grown : {X : Type 0} (seen : X → List ℕ) (wanted : List ℕ) (test : X → Bool) (told_of : (thing : X) → Decides (test thing) (seen thing ≡ wanted))
    (things new : List X) (thing : X) → seen thing ≡ wanted
    → new ≡ cond (list_any test things) things (things ++ thing ∷ []) → AreTexts (map seen things) → IsUtf8 wanted → AreTexts (map seen new)
texts_grown seen wanted test told_of things new thing is e texts utf8 = record {
  distinct = distinct_grown seen wanted test told_of things new thing is e texts.distinct;
  utf8 = λ text inside. elim (grown_by seen wanted test told_of things new thing is e) [
    | inl same ↦ texts.utf8 text (subst (λ them. Contains (map seen them) text) same inside)
    | inr more ↦ elim (Contains-push_cases (map seen things) (seen thing) text
        (subst (λ them. Contains them text) (ap (map seen) more.0 ∙ map-append seen things (thing ∷ [])) inside)) [
          | inl old ↦ texts.utf8 text old
          | inr last ↦ subst IsUtf8 (sym is ∙ last) utf8
        ]
  ];
}

pub text_is_utf8 : {X : Type 0} (seen : X → List ℕ) (keys items : List X) (value : List (List ℕ)) → map seen keys ≡ value → items ≡ keys
    → (code : ℕ) (key : X) (bytes : List ℕ) → code < length value → key ≡ get_or items code key → bytes ≡ seen key
    → AreTexts (map seen keys) → IsUtf8 bytes
text_is_utf8 seen keys items value view same code key bytes below at is texts =
    let long = length-map keys seen in let same_long = ap length view in
    let inside : code < length (map seen keys) = omega (arith, below, same_long) in
    let here : get_or (map seen keys) code bytes ≡ bytes =
    get_or-map seen keys code key bytes (omega (arith, inside, long)) ∙ ap seen (ap (λ them. get_or them code key) (sym same) ∙ sym at) ∙ sym is in
    texts.utf8 bytes (code, inside, here)

pub text_stands : {X : Type 0} (seen : X → List ℕ) (keys items : List X) (value : List (List ℕ)) → map seen keys ≡ value → items ≡ keys
    → (code : ℕ) (key : X) (bytes : List ℕ) → code < length value → key ≡ get_or items code key → bytes ≡ seen key → slice_get value code ≡ Some bytes
text_stands seen keys items value view same code key bytes below at is =
    let long = length-map keys seen in let same_long = ap length view in let items_long = ap length same in
    let there : slice_get items code ≡ Some key = item_at items code key (omega (arith, below, long, same_long, items_long)) at in
    ap (λ them. slice_get them code) (sym view) ∙ map_at seen keys code key (subst (λ them. slice_get them code ≡ Some key) same there) ∙ ap Some (sym is)
