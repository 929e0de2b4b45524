-- What a quoted constant says, byte by byte.
use Rattle.std.proofs.Common.{◌≡◌, ℕ, ◌+◌, ◌<◌, ◌≤◌, ◌⊎◌, inl, inr, Bool, true, false, eqb, List, [], ◌∷◌, ◌++◌, length, drop, get_or, refl, sym, ap, subst}
use Rattle.std.proofs.Common.{◌∙◌, append_assoc, add-one}
use Rattle.std.specs.List.{flat_map}
use Rattle.std.proofs.Math.Seq.{drop-cons}
use Rattle.std.proofs.lemmas.List.{append-nil, drop_all}
use Rattle.std.proofs.lemmas.Bool.{eqb-true}
use Rattle.esto_text.specs.Quotes.{written}
use Rattle.esto_read.specs.Terms.{IsWritten}

pub written_cases : (x : ℕ) → ((x ≡ 39) × (eqb x 39 ≡ true) × (written x ≡ 39 ∷ 39 ∷ [])) ⊎ ((eqb x 39 ≡ false) × (written x ≡ x ∷ []))
written_cases x = go (eqb x 39) refl
  where
    go : (b : Bool) → eqb x 39 ≡ b → ((x ≡ 39) × (eqb x 39 ≡ true) × (written x ≡ 39 ∷ 39 ∷ [])) ⊎ ((eqb x 39 ≡ false) × (written x ≡ x ∷ []))
    go true e = inl (eqb-true x 39 e, e, rw e refl)
    go false e = inr (e, rw e refl)

-- what is left: after the first of two quotes, the second comes first
abbrev Left : Bool → List ℕ → List ℕ → Type 0
Left false left rest = left ≡ flat_map written rest
Left true left rest = left ≡ 39 ∷ flat_map written rest

pub record SaidSoFar (inside : List ℕ) (n : ℕ) (content : List ℕ) (in_pair : Bool) : Type 0 where
  pub rest : List ℕ
  pub whole : inside ≡ flat_map written (content ++ rest)
  pub left : Left in_pair (drop n inside) rest

pub said_begins : (inside : List ℕ) → IsWritten inside → SaidSoFar inside 0 [] false
said_begins inside (content, e) = record { rest = content; whole = e; left = e }

module _ (inside : List ℕ) (n : ℕ) (content : List ℕ) where
  pub said_pair : (b : Bool) → b ≡ true → n < length inside → SaidSoFar inside n content b → SaidSoFar inside (n + 1) content false
  said_pair b on lt h =
      let left : drop n inside ≡ 39 ∷ flat_map written h.rest = subst (λ (x : Bool). Left x (drop n inside) h.rest) on h.left in
      let cut : get_or inside n 0 ∷ drop (n + 1) inside ≡ 39 ∷ flat_map written h.rest = rw (add-one n) (sym (drop-cons inside n 0 lt) ∙ left) in
      record { rest = h.rest; whole = h.whole; left = ap (drop 1) cut }

  pub said_more : (b : Bool) → b ≡ false → n < length inside → SaidSoFar inside n content b
      → SaidSoFar inside (n + 1) (content ++ get_or inside n 0 ∷ []) (eqb (get_or inside n 0) 39)
  said_more b off lt h = go h.rest h.whole (subst (λ (x : Bool). Left x (drop n inside) h.rest) off h.left)
    where
      go : (rest : List ℕ) → inside ≡ flat_map written (content ++ rest) → drop n inside ≡ flat_map written rest
          → SaidSoFar inside (n + 1) (content ++ get_or inside n 0 ∷ []) (eqb (get_or inside n 0) 39)
      go [] whole left = let e : get_or inside n 0 ∷ drop (n + 1) inside ≡ [] = rw (add-one n) (sym (drop-cons inside n 0 lt) ∙ left) in absurd cc
      go (x ∷ xs) whole left =
          let cut : get_or inside n 0 ∷ drop (n + 1) inside ≡ written x ++ flat_map written xs = rw (add-one n) (sym (drop-cons inside n 0 lt) ∙ left) in
          let same : (y : ℕ) → y ≡ x → inside ≡ flat_map written ((content ++ y ∷ []) ++ xs) = λ y e. whole
          ∙ ap (flat_map written) (ap (λ (z : ℕ). content ++ z ∷ xs) (sym e) ∙ sym (append_assoc content (y ∷ []) xs)) in
          elim (written_cases x) [
            | inl w ↦
                let two : get_or inside n 0 ∷ drop (n + 1) inside ≡ 39 ∷ 39 ∷ flat_map written xs = cut ∙ ap (λ (l : List ℕ). l ++ flat_map written xs) w.2 in
                let first : get_or inside n 0 ≡ x = ap (λ (l : List ℕ). get_or l 0 0) two ∙ sym w.0 in
                let second : drop (n + 1) inside ≡ 39 ∷ flat_map written xs = ap (drop 1) two in
                record {
                  rest = xs;
                  whole = same (get_or inside n 0) first;
                  left =
                      subst (λ (z : Bool). Left z (drop (n + 1) inside) xs) (sym (ap (λ (y : ℕ). eqb y 39) first ∙ w.1)) second;
                }
            | inr w ↦
                let one : get_or inside n 0 ∷ drop (n + 1) inside ≡ x ∷ flat_map written xs = cut ∙ ap (λ (l : List ℕ). l ++ flat_map written xs) w.1 in
                let first : get_or inside n 0 ≡ x = ap (λ (l : List ℕ). get_or l 0 0) one in
                let second : drop (n + 1) inside ≡ flat_map written xs = ap (drop 1) one in
                record {
                  rest = xs;
                  whole = same (get_or inside n 0) first;
                  left =
                      subst (λ (z : Bool). Left z (drop (n + 1) inside) xs) (sym (ap (λ (y : ℕ). eqb y 39) first ∙ w.0)) second;
                }
          ]

  pub said_ends : (b : Bool) → length inside ≤ n → SaidSoFar inside n content b → inside ≡ flat_map written content
  said_ends b le h = go b h.rest h.whole h.left
    where
      none : drop n inside ≡ []
      none = drop_all n inside le

      go : (b : Bool) (rest : List ℕ) → inside ≡ flat_map written (content ++ rest) → Left b (drop n inside) rest → inside ≡ flat_map written content
      go true rest whole left = let e : [] ≡ 39 ∷ flat_map written rest = sym none ∙ left in absurd cc
      go false [] whole left = whole ∙ ap (flat_map written) (append-nil content)
      go false (x ∷ xs) whole left =
          let e : [] ≡ written x ++ flat_map written xs = sym none ∙ left in
          elim (written_cases x) [
            | inl w ↦ let f : [] ≡ 39 ∷ 39 ∷ flat_map written xs = e ∙ ap (λ (l : List ℕ). l ++ flat_map written xs) w.2 in absurd cc
            | inr w ↦ let f : [] ≡ x ∷ flat_map written xs = e ∙ ap (λ (l : List ℕ). l ++ flat_map written xs) w.1 in absurd cc
          ]
