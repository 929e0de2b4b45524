-- The tokens so far, and that no other tokens cover the text.
use Rattle.std.proofs.Common.{◌≡◌, ◌≢◌, ℕ, ◌+◌, ◌-◌, ◌<◌, ◌≤◌, ◌⊎◌, inl, inr, List, [], ◌∷◌, ◌++◌, length, take, drop, get_or, Some, None, refl, sym, ap, subst}
use Rattle.std.proofs.Common.{◌∙◌, append_assoc, arith}
use Rattle.std.proofs.lemmas.List.{append-nil, take_at, length-append, length-take-le, length-drop, take-append-drop, drop-drop, drop_all, take_all}
use Rattle.std.proofs.lemmas.List.{append_cancel_left, get_or-drop}
use Rattle.esto_text.specs.declared.scan.Class.TheVariants.{Blank}
use Rattle.esto_text.specs.declared.token.TokenKind.{TokenKind}
use Rattle.esto_text.specs.declared.token.TokenKind.TheVariants.{Stray}
use Rattle.esto_text.specs.declared.token.Token.{Token}
use Rattle.esto_text.specs.Gaps.{IsIn, IsGap, IsComment, BeginsNoGap}
use Rattle.esto_text.specs.Lexemes.{IsLexeme, IsLongest, NoLexeme, Lexes}
use Rattle.esto_text.specs.Tokens.{IsToken, Places, Covers}
use Rattle.esto_text.proofs.LexemeLemmas.{kind_of, kind_is, nil_of}

-- ---- no other tokens

gap_byte : (x : ℕ) (g a : List ℕ) → IsGap (x ∷ g) a → x ≢ 35 → (IsIn Blank x → ⊥) → ⊥
gap_byte x g a (inl h) ne blank = blank h.0
gap_byte x g a (inr h) ne blank = ne h.0

hash_blank : (x : ℕ) → x ≡ 35 → IsIn Blank x → ⊥
hash_blank x e (inl b) = omega arith
hash_blank x e (inr (inl b)) = omega arith
hash_blank x e (inr (inr (inl b))) = omega arith
hash_blank x e (inr (inr (inr b))) = omega arith

mutual
  gap_unique : (g a g' a' : List ℕ) → g ++ a ≡ g' ++ a' → IsGap g a → IsGap g' a' → BeginsNoGap a → BeginsNoGap a' → g ≡ g'
  gap_unique [] a [] a' e h h' n n' = refl
  gap_unique [] [] (y ∷ g') a' e h h' n n' = absurd cc
  gap_unique [] (x ∷ a) (y ∷ g') a' e h h' n n' = let p : y ≡ x = cc in absurd (gap_byte y g' a' h' (λ q. n.0 (sym p ∙ q)) (λ q. n.1 (subst (IsIn Blank) p q)))
  gap_unique (x ∷ g) a [] [] e h h' n n' = absurd cc
  gap_unique (x ∷ g) a [] (y ∷ a') e h h' n n' = let p : x ≡ y = cc in absurd (gap_byte x g a h (λ q. n'.0 (sym p ∙ q)) (λ q. n'.1 (subst (IsIn Blank) p q)))
  gap_unique (x ∷ g) a (y ∷ g') a' e (inl h) (inl h') n n' = let r : g ++ a ≡ g' ++ a' = cc in let s = gap_unique g a g' a' r h.1 h'.1 n n' in cc
  gap_unique (x ∷ g) a (y ∷ g') a' e (inr h) (inr h') n n' = let r : g ++ a ≡ g' ++ a' = cc in let s = comment_unique g a g' a' r h.1 h'.1 n n' in cc
  gap_unique (x ∷ g) a (y ∷ g') a' e (inl h) (inr h') n n' = let p : x ≡ y = cc in absurd (hash_blank x (p ∙ h'.0) h.0)
  gap_unique (x ∷ g) a (y ∷ g') a' e (inr h) (inl h') n n' = let p : y ≡ x = cc in absurd (hash_blank y (p ∙ h.0) h'.0)

  comment_unique : (g a g' a' : List ℕ) → g ++ a ≡ g' ++ a' → IsComment g a → IsComment g' a' → BeginsNoGap a → BeginsNoGap a' → g ≡ g'
  comment_unique [] a [] a' e h h' n n' = refl
  comment_unique [] a (y ∷ g') a' e h h' n n' = absurd cc
  comment_unique (x ∷ g) a [] a' e h h' n n' = absurd cc
  comment_unique (x ∷ g) a (y ∷ g') a' e (inl h) (inl h') n n' = let r : g ++ a ≡ g' ++ a' = cc in let s = gap_unique g a g' a' r h.1 h'.1 n n' in cc
  comment_unique (x ∷ g) a (y ∷ g') a' e (inr h) (inr h') n n' = let r : g ++ a ≡ g' ++ a' = cc in let s = comment_unique g a g' a' r h.1 h'.1 n n' in cc
  comment_unique (x ∷ g) a (y ∷ g') a' e (inl h) (inr h') n n' = let p : y ≡ x = cc in absurd (h'.0 (p ∙ h.0))
  comment_unique (x ∷ g) a (y ∷ g') a' e (inr h) (inl h') n n' = let p : x ≡ y = cc in absurd (h.0 (p ∙ h'.0))

abbrev IsStray : TokenKind → List ℕ → List ℕ → Type 0
IsStray k text after = (k ≡ Stray) × (text ≢ []) × (after ≡ []) × BeginsNoGap text × NoLexeme text

token_cases : (k : TokenKind) (t a : List ℕ) → IsToken k t a → IsStray k t a ⊎ IsLongest k t a
token_cases Stray t a h = inl (refl, h.0, h.1, h.2, h.3)
token_cases _ t a h = inr h

blank_kind : (b : ℕ) (u : List ℕ) → IsIn Blank b → kind_of (b ∷ u) ≡ Stray
blank_kind b u (inl e) = rw e refl
blank_kind b u (inr (inl e)) = rw e refl
blank_kind b u (inr (inr (inl e))) = rw e refl
blank_kind b u (inr (inr (inr e))) = rw e refl

not_stray : (k : TokenKind) (t a : List ℕ) → IsLexeme k t a → ¬ (kind_of t ≡ Stray)
not_stray k t a h e = subst (λ (x : TokenKind). IsLexeme x t a) (sym (kind_is k t a h) ∙ e) h

lexeme_no_gap : (k : TokenKind) (t a : List ℕ) → IsLexeme k t a → BeginsNoGap (t ++ a)
lexeme_no_gap k [] a h = absurd (nil_of k a h)
lexeme_no_gap k (b ∷ t) a h = (λ e. not_stray k (b ∷ t) a h (ap (λ (x : ℕ). kind_of (x ∷ t)) e), λ e. not_stray k (b ∷ t) a h (blank_kind b t e))

stray_no_gap : (t a : List ℕ) → BeginsNoGap t → a ≡ [] → BeginsNoGap (t ++ a)
stray_no_gap t a h e = subst BeginsNoGap (sym (ap (λ (l : List ℕ). t ++ l) e ∙ append-nil t)) h

token_no_gap : (k : TokenKind) (t a : List ℕ) → IsToken k t a → BeginsNoGap (t ++ a)
token_no_gap k t a h = elim (token_cases k t a h) [ inl s ↦ stray_no_gap t a s.3 s.2 | inr l ↦ lexeme_no_gap k t a l.stands ]

same_front : (t a t' a' : List ℕ) → t ++ a ≡ t' ++ a' → length t ≡ length t' → t ≡ t'
same_front t a t' a' e n = sym (take_at t a (length t) refl) ∙ ap (take (length t)) e ∙ take_at t' a' (length t) (sym n)

token_unique : (k k' : TokenKind) (t a t' a' : List ℕ) → t ++ a ≡ t' ++ a' → IsToken k t a → IsToken k' t' a' → (k ≡ k') × (t ≡ t')
token_unique k k' t a t' a' e h h' =
    elim (token_cases k t a h) [
      | inl s ↦ elim (token_cases k' t' a' h') [
        | inl s' ↦ (s.0 ∙ sym s'.0, sym (append-nil t) ∙ ap (λ (l : List ℕ). t ++ l) (sym s.2) ∙ e ∙ ap (λ (l : List ℕ). t' ++ l) s'.2 ∙ append-nil t')
        | inr l' ↦ absurd (s.4 k' t' a' (sym e ∙ ap (λ (l : List ℕ). t ++ l) s.2 ∙ append-nil t) l'.stands)
      ]
      | inr l ↦ elim (token_cases k' t' a' h') [
        | inl s' ↦ absurd (s'.4 k t a (e ∙ ap (λ (l : List ℕ). t' ++ l) s'.2 ∙ append-nil t') l.stands)
        | inr l' ↦
            let n : length t ≡ length t' = omega (arith, l.longest k' t' a' (sym e) l'.stands, l'.longest k t a e l.stands) in
            let t-is : t ≡ t' = same_front t a t' a' e n in
            let stands' : IsLexeme k' t a' = subst (λ (x : List ℕ). IsLexeme k' x a') (sym t-is) l'.stands in
            (sym (kind_is k t a l.stands) ∙ kind_is k' t a' stands', t-is)
      ]
    ]

token_same : (t t' : Token) → t.kind ≡ t'.kind → t.start ≡ t'.start → t.end ≡ t'.end → t ≡ t'
token_same t t' p q r = λ i. record { kind = p i; start = q i; end = r i }

token_not_nil : (k : TokenKind) (t a : List ℕ) → IsToken k t a → t ≡ [] → ⊥
token_not_nil k t a h e = elim (token_cases k t a h) [ inl s ↦ s.1 e | inr l ↦ nil_of k a (subst (λ (x : List ℕ). IsLexeme k x a) e l.stands) ]

no_more : (at : ℕ) (bytes : List ℕ) (t : Token) (gap text after : List ℕ) → IsGap bytes [] → Places at bytes t gap text after → ⊥
no_more at bytes t gap text after g p =
    let same : bytes ≡ gap = gap_unique bytes [] gap (text ++ after) (append-nil bytes ∙ p.parts) g p.is_gap tt (token_no_gap t.kind text after p.is_token) in
    let n : length text ≡ 0 = omega (arith, ap length same, ap length p.parts, length-append gap (text ++ after), length-append text after) in
    token_not_nil t.kind text after p.is_token (empty text n)
  where
    empty : (l : List ℕ) → length l ≡ 0 → l ≡ []
    empty [] e = refl
    empty (x ∷ l) e = absurd (omega arith)

pub covers_unique : (at : ℕ) (bytes : List ℕ) (ts ts' : List Token) → Covers at bytes ts → Covers at bytes ts' → ts ≡ ts'
covers_unique at bytes [] [] h h' = refl
covers_unique at bytes [] (t' ∷ ts') h (gap', text', after', p', more') = absurd (no_more at bytes t' gap' text' after' h p')
covers_unique at bytes (t ∷ ts) [] (gap, text, after, p, more) h' = absurd (no_more at bytes t gap text after h' p)
covers_unique at bytes (t ∷ ts) (t' ∷ ts') (gap, text, after, p, more) (gap', text', after', p', more') =
    let e : gap ++ (text ++ after) ≡ gap' ++ (text' ++ after') = sym p.parts ∙ p'.parts in
    let g : gap ≡ gap' = gap_unique gap (text ++ after) gap' (text' ++ after') e p.is_gap p'.is_gap (token_no_gap t.kind text after p.is_token)
    (token_no_gap t'.kind text' after' p'.is_token) in
    let e2 : text ++ after ≡ text' ++ after' = append_cancel_left gap (text ++ after) (text' ++ after')
    (e ∙ ap (λ (l : List ℕ). l ++ (text' ++ after')) (sym g)) in
    let u = token_unique t.kind t'.kind text after text' after' e2 p.is_token p'.is_token in
    let e3 : after ≡ after' = append_cancel_left text after after' (e2 ∙ ap (λ (l : List ℕ). l ++ after') (sym u.1)) in
    let s : t.start ≡ t'.start = p.starts ∙ ap (λ (l : List ℕ). at + length l) g ∙ sym p'.starts in
    let n : t.end ≡ t'.end = omega (arith, p.ends, p'.ends, ap length u.1, s) in
    let same : t ≡ t' = token_same t t' u.0 s n in
    let more2 : Covers t.end after ts' = subst (λ (l : List ℕ). Covers t.end l ts') (sym e3) (subst (λ (x : ℕ). Covers x after' ts') (sym n) more') in
    let rest : ts ≡ ts' = covers_unique t.end after ts ts' more more2 in
    cc

-- ---- the tokens so far

pub record CoversSoFar (bytes : List ℕ) (ts : List Token) (at : ℕ) : Type 0 where
  pub in_range : at ≤ length bytes
  pub whole : (more : List Token) → Covers at (drop at bytes) more → Covers 0 bytes (ts ++ more)

-- the longest token at this place, or the rest where there is none
abbrev pub Next : List ℕ → TokenKind → ℕ → ℕ → Type 0
Next bytes kind start end = (start ≤ end) × (end ≤ length bytes) × IsToken kind (take (end - start) (drop start bytes)) (drop end bytes)

pub is_token : (k : TokenKind) (t a : List ℕ) → IsLongest k t a → IsToken k t a
is_token Stray t a h = absurd h.stands
is_token _ t a h = h

pub next_lexeme : (bytes : List ℕ) (start : ℕ) (kind : TokenKind) (len : ℕ) → start ≤ length bytes → Lexes (drop start bytes) (Some (kind, len))
    → Next bytes kind start (start + len)
next_lexeme bytes start kind len le h =
    let n : (start + len) - start ≡ len = omega arith in (
      omega arith,
      omega (arith, h.0, length-drop start bytes),
      rw n (subst (λ (l : List ℕ). IsToken kind (take len (drop start bytes)) l)
          (drop-drop len start bytes) (is_token kind _ _ h.1)),
    )

no_gap_at : (l : List ℕ) → 0 < length l → get_or l 0 0 ≢ 35 → (IsIn Blank (get_or l 0 0) → ⊥) → BeginsNoGap l
no_gap_at [] lt p q = tt
no_gap_at (x ∷ l) lt p q = (p, q)

pub next_stray : (bytes : List ℕ) (start : ℕ) → start < length bytes → get_or (drop start bytes) 0 0 ≢ 35 → (IsIn Blank (get_or (drop start bytes) 0 0) → ⊥)
    → Lexes (drop start bytes) None → Next bytes Stray start (length bytes)
next_stray bytes start lt p q h =
    let n = length-drop start bytes in
    let all : take (length bytes - start) (drop start bytes) ≡ drop start bytes = take_all (length bytes - start) (drop start bytes) (omega arith) in
    let end : drop (length bytes) bytes ≡ [] = drop_all (length bytes) bytes (omega arith) in
    (omega arith, omega arith, rw all (λ e. omega (arith, ap length e), end, no_gap_at (drop start bytes) (omega arith) p q, h))

pub covers_more : (bytes : List ℕ) (ts : List Token) (at gap_len : ℕ) (t : Token) → CoversSoFar bytes ts at → gap_len ≤ length (drop at bytes)
    → IsGap (take gap_len (drop at bytes)) (drop gap_len (drop at bytes))
    → t.start ≡ at + gap_len → Next bytes t.kind t.start t.end → CoversSoFar bytes (ts ++ t ∷ []) t.end
covers_more bytes ts at gap_len t h le g starts next = record {
  in_range = next.1;
  whole = λ more c.
      let text = take (t.end - t.start) (drop t.start bytes) in
      let d : drop gap_len (drop at bytes) ≡ drop t.start bytes = drop-drop gap_len at bytes ∙ ap (λ (i : ℕ). drop i bytes) (sym starts) in
      let e : drop (t.end - t.start) (drop t.start bytes) ≡ drop t.end bytes = drop-drop (t.end - t.start) t.start bytes
      ∙ ap (λ (i : ℕ). drop i bytes) (omega (arith, next.0)) in
      let f : text ++ drop t.end bytes ≡ drop gap_len (drop at bytes) = ap (λ (l : List ℕ). text ++ l) (sym e)
      ∙ take-append-drop (t.end - t.start) (drop t.start bytes) ∙ sym d in
      let n : length text ≡ t.end - t.start = length-take-le (t.end - t.start) (drop t.start bytes) (omega (arith, next.1, length-drop t.start bytes)) in
      let placed : Places at (drop at bytes) t (take gap_len (drop at bytes)) text (drop t.end bytes) = record {
        parts = sym (ap (λ (l : List ℕ). take gap_len (drop at bytes) ++ l) f ∙ take-append-drop gap_len (drop at bytes));
        is_gap = subst (IsGap (take gap_len (drop at bytes))) (sym f) g;
        starts = omega (arith, starts, length-take-le gap_len (drop at bytes) le);
        ends = omega (arith, n, next.0);
        is_token = next.2;
      } in
      subst (Covers 0 bytes) (sym (append_assoc ts (t ∷ []) more)) (h.whole (t ∷ more) (take gap_len (drop at bytes), text, drop t.end bytes, placed, c));
}

pub covers_ends : (bytes : List ℕ) (ts : List Token) (at : ℕ) → CoversSoFar bytes ts at → IsGap (drop at bytes) [] → Covers 0 bytes ts
covers_ends bytes ts at h g = subst (Covers 0 bytes) (append-nil ts) (h.whole [] g)

pub nothing_left : (bytes : List ℕ) (at : ℕ) → length bytes ≤ at → IsGap (drop at bytes) []
nothing_left bytes at le = subst (λ (l : List ℕ). IsGap l []) (sym (drop_all at bytes le)) tt

pub only_gap_left : (bytes : List ℕ) (at n : ℕ) → at + n ≡ length bytes → IsGap (take n (drop at bytes)) (drop n (drop at bytes)) → IsGap (drop at bytes) []
only_gap_left bytes at n e g =
    let all : take n (drop at bytes) ≡ drop at bytes = take_all n (drop at bytes) (omega (arith, length-drop at bytes)) in
    let end : drop n (drop at bytes) ≡ [] = drop_all n (drop at bytes) (omega (arith, length-drop at bytes)) in
    subst (IsGap (drop at bytes)) end (subst (λ (l : List ℕ). IsGap l (drop n (drop at bytes))) all g)

pub same_byte : (bytes : List ℕ) (at n : ℕ) → get_or (drop (at + n) bytes) 0 0 ≡ get_or (drop at bytes) n 0
same_byte bytes at n = get_or-drop (at + n) bytes 0 0 ∙ ap (λ (i : ℕ). get_or bytes i 0) (omega arith) ∙ sym (get_or-drop at bytes n 0)
