-- The codes of texts: the code of a text is its first place.
use Rattle.std.proofs.Common.{◌≡◌, ◌≢◌, inl, inr, ℕ, suc, Bool, true, false, cond, List, [], ◌∷◌, Some, slice_get, Contains, refl, sym, ap, ◌∙◌}
use Rattle.std.specs.Prelude.{AllPairs}
use Rattle.std.specs.Str.{bytes_eq}
use Rattle.std.proofs.lemmas.Slice.Eq.{bytes_eq-Decides}
use Rattle.esto_term.proofs.ListLemmas.{Contains-nil, Contains-cases, Contains-at}
use Rattle.esto_term.proofs.PlaceLemmas.{one_place}
use Rattle.esto_steps.specs.Texts.{IsNumbering}

-- the first place of the text
pub code_in : List (List ℕ) → List ℕ → ℕ
code_in [] text = 0
code_in (first ∷ rest) text = cond (bytes_eq first text) 0 (suc (code_in rest text))

pub code_stands : (texts : List (List ℕ)) (text : List ℕ) → Contains texts text → slice_get texts (code_in texts text) ≡ Some text
unfolding code_in
code_stands [] text inside = absurd (Contains-nil text inside)
code_stands (first ∷ rest) text inside = by (bytes_eq first text) refl (λ later. code_stands rest text later)
  where
    by : (answer : Bool) → bytes_eq first text ≡ answer → (Contains rest text → slice_get rest (code_in rest text) ≡ Some text)
        → slice_get (first ∷ rest) (cond answer 0 (suc (code_in rest text))) ≡ Some text
    by true told again = ap Some ((bytes_eq-Decides first text).0 told)
    by false told again = elim (Contains-cases first rest text inside) [
      | inl is ↦ let wrong : false ≡ true = sym told ∙ (bytes_eq-Decides first text).1 is in cc
      | inr later ↦ again later
    ]

-- where the texts are distinct, it is the only one
pub code_in_numbers : (texts : List (List ℕ)) → AllPairs ◌≢◌ texts → IsNumbering texts (code_in texts)
code_in_numbers texts distinct number text at =
    one_place texts distinct (code_in texts text) number text (code_stands texts text (Contains-at texts number text at)) at
