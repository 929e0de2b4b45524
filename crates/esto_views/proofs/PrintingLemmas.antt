-- Texts that are put together, one thing after the other.
use Rattle.std.proofs.Common.{◌≡◌, ℕ, ◌+◌, ◌<◌, ◌≤◌, List, ◌∷◌, ◌++◌, length, get_or, drop, sym, ap, ◌∙◌}
use Rattle.std.proofs.lemmas.List.{append_assoc, append-nil, drop_all}
use Rattle.esto_term.proofs.PlaceLemmas.{drop-item}
use Rattle.esto_views.specs.Printing.{each_from}

-- a text is put together up to a place, and the texts of the things from there on are to come
module _ {A : Type 0} (text_of : ℕ → A → List ℕ) (things : List A) (place : ℕ) (whole text : List ℕ)
    (so_far : text ++ each_from text_of place (drop place things) ≡ whole) where
  pub each_turn : (thing : A) (more : List ℕ) → place < length things → thing ≡ get_or things place thing → more ≡ text ++ text_of place thing
      → more ++ each_from text_of (place + 1) (drop (place + 1) things) ≡ whole
  each_turn thing more below is grown =
      let rest = each_from text_of (place + 1) (drop (place + 1) things) in
      let split : drop place things ≡ thing ∷ drop (place + 1) things =
      drop-item things place thing below is in
      ap (λ it. it ++ rest) grown ∙ append_assoc text (text_of place thing) rest ∙ sym (ap (λ them. text ++ each_from text_of place them) split) ∙ so_far

  pub each_end : length things ≤ place → text ≡ whole
  each_end past = sym (append-nil text) ∙ ap (λ them. text ++ each_from text_of place them) (sym (drop_all place things past)) ∙ so_far
