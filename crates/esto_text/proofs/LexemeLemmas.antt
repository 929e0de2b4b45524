-- The longest token at a place, by its first byte.
use Rattle.std.proofs.Common.{◌≡◌, ◌≢◌, ℕ, zero, suc, ◌+◌, ◌<◌, ◌≤◌, inl, inr, Bool, true, false, cond, List, [], ◌∷◌, ◌++◌, length, take, drop, get_or, Option}
use Rattle.std.proofs.Common.{Some, None, refl, sym, ap, subst, ◌∙◌, arith, add-one}
use Rattle.std.specs.Prelude.{◌&&◌, ◌||◌, ◌==◌, nat_le, if◌then◌else◌}
use Rattle.std.specs.List.{AllByRecursion}
use Rattle.std.proofs.lemmas.List.{length-append, take-append-drop, length-take-le, get_or_append_left, get_or-take}
use Rattle.std.proofs.lemmas.List.Elements.{All-from_recursion, recursion_from_All, All-from_get_or}
use Rattle.std.proofs.lemmas.Bool.{le-leb, lt-leb, ne_eqb, and_from, and_left, or_left, or_right, or_from, cases_lt}
use Rattle.esto_text.specs.declared.scan.Class.{Class}
use Rattle.esto_text.specs.declared.scan.Class.TheVariants.{Digit, Word}
use Rattle.esto_text.specs.declared.token.TokenKind.{TokenKind}
use Rattle.esto_text.specs.declared.token.TokenKind.TheVariants.{Name, Wildcard, Quoted, Number, LeftParen, RightParen, LeftBrace, RightBrace, LeftBracket}
use Rattle.esto_text.specs.declared.token.TokenKind.TheVariants.{RightBracket, Comma, Dot, Colon, Turnstile, Arrow, Equals, Stars, Semicolon, Stray}
use Rattle.esto_text.specs.Gaps.{IsLetter, IsDigit, IsIn}
use Rattle.esto_text.specs.Quotes.{IsClosed, LongestClosed}
use Rattle.esto_text.specs.Lexemes.{IsNameText, IsNumberText, IsLexeme, Lexes}

-- ---- runs

module _ (c : Class) (rest : List ℕ) (n : ℕ) where
  run_all : n ≤ length rest → ((k : ℕ) → k < n → IsIn c (get_or rest k 0)) → AllByRecursion (IsIn c) (take n rest)
  run_all le each = recursion_from_All (IsIn c) (take n rest) (All-from_get_or (IsIn c) (take n rest) 0 (λ i lt.
      let l : i < n = omega (arith, length-take-le n rest le) in subst (IsIn c) (sym (get_or-take n rest i 0 l)) (each i l)))

  run_max : (t a : List ℕ) → t ++ a ≡ rest → AllByRecursion (IsIn c) t → (n < length rest → IsIn c (get_or rest n 0) → ⊥) → length t ≤ n
  run_max t a e each stops =
      elim (cases_lt n (length t)) [
        | inl lt ↦
            let here : IsIn c (get_or t n 0) = All-from_recursion (IsIn c) t each n 0 lt in
            let same : get_or t n 0 ≡ get_or rest n 0 = sym (get_or_append_left t a 0 n lt) ∙ ap (λ (l : List ℕ). get_or l n 0) e in
            absurd (stops (omega (arith, length-append t a, ap length e)) (subst (IsIn c) same here))
        | inr le ↦ le
      ]

-- ---- the kind of a token, by its text

abbrev pub is_letter : ℕ → Bool
is_letter b = (nat_le 65 b && nat_le b 90) || (nat_le 97 b && nat_le b 122)

abbrev pub is_digit : ℕ → Bool
is_digit b = nat_le 48 b && nat_le b 57

abbrev after_minus : List ℕ → TokenKind
after_minus [] = Number
after_minus (x ∷ u) = if x == 62 then Arrow else Number

abbrev after_colon : List ℕ → TokenKind
after_colon [] = Colon
after_colon (x ∷ u) = Turnstile

abbrev sign_kind : ℕ → List ℕ → TokenKind
sign_kind b u =
    if b == 95 then Wildcard else (if b == 39 then Quoted else (if b == 45 then after_minus u else (if b == 58 then after_colon u else (if b == 42 then Stars
    else (if b == 40 then LeftParen else (if b == 41 then RightParen else (if b == 123 then LeftBrace else (if b == 125 then RightBrace
    else (if b == 91 then LeftBracket else (if b == 93 then RightBracket else
    (if b == 44 then Comma else (if b == 46 then Dot else (if b == 61 then Equals else (if b == 59 then Semicolon else Stray))))))))))))))

-- a token's text tells its kind
abbrev pub kind_of : List ℕ → TokenKind
kind_of [] = Stray
kind_of (b ∷ u) = if is_letter b then Name else (if is_digit b then Number else sign_kind b u)

a_letter : (b : ℕ) (u : List ℕ) → is_letter b ≡ true → kind_of (b ∷ u) ≡ Name
a_letter b u is = ap (λ (test : Bool). cond test Name (cond (is_digit b) Number (sign_kind b u))) is

letter_kind : (b : ℕ) (u : List ℕ) → IsLetter b → kind_of (b ∷ u) ≡ Name
letter_kind b u (inl h) = a_letter b u (or_left _ _ (and_from _ _ (le-leb 65 b h.0) (le-leb b 90 h.1)))
letter_kind b u (inr h) = a_letter b u (or_right _ _ (and_from _ _ (le-leb 97 b h.0) (le-leb b 122 h.1)))

digit_kind : (b : ℕ) (u : List ℕ) → IsDigit b → kind_of (b ∷ u) ≡ Number
digit_kind b u h =
    let none : is_letter b ≡ false = or_from _ _ (and_left _ _ (lt-leb 65 b (omega (arith, h.1)))) (and_left _ _ (lt-leb 97 b (omega (arith, h.1)))) in
    ap (λ (test : Bool). cond test Name (cond (is_digit b) Number (sign_kind b u))) none
    ∙ ap (λ (test : Bool). cond test Number (sign_kind b u)) (and_from _ _ (le-leb 48 b h.0) (le-leb b 57 h.1))

minus_kind : (b : ℕ) (u : List ℕ) → IsDigit b → kind_of (45 ∷ b ∷ u) ≡ Number
minus_kind b u h = ap (λ (test : Bool). cond test Arrow Number) (ne_eqb b 62 (λ e. omega (arith, h.1, e)))

pub kind_is : (k : TokenKind) (t a : List ℕ) → IsLexeme k t a → kind_of t ≡ k
kind_is Name t a h = ap kind_of h.is ∙ letter_kind h.first h.others h.letter
kind_is Wildcard t a h = ap kind_of h.0
kind_is Quoted t a h = ap kind_of h.1
kind_is Number t a h = elim h.is [ inl e ↦ ap kind_of e ∙ digit_kind h.first h.others h.digit | inr e ↦ ap kind_of e ∙ minus_kind h.first h.others h.digit ]
kind_is Stray t a h = absurd h
kind_is _ t a h = ap kind_of h

pub nil_of : (k : TokenKind) (a : List ℕ) → ¬ IsLexeme k [] a
nil_of k a h = subst (λ (x : TokenKind). IsLexeme x [] a) (sym (kind_is k [] a h)) h

-- what a token at the front begins with
pub starts : (k : TokenKind) (b : ℕ) (rest t a : List ℕ) → t ++ a ≡ b ∷ rest → IsLexeme k t a → (u : List ℕ) × (t ≡ b ∷ u) × (u ++ a ≡ rest)
    × (kind_of (b ∷ u) ≡ k)
starts k b rest [] a e h = absurd (nil_of k a h)
starts k b rest (x ∷ u) a e h =
    let p : x ≡ b = cc in let q : u ++ a ≡ rest = cc in
    (u, ap (λ (y : ℕ). y ∷ u) p, q, ap (λ (y : ℕ). kind_of (y ∷ u)) (sym p) ∙ kind_is k (x ∷ u) a h)

of_kind : (k k' : TokenKind) (t a : List ℕ) → k ≡ k' → IsLexeme k t a → IsLexeme k' t a
of_kind k k' t a e h = subst (λ (x : TokenKind). IsLexeme x t a) e h

lexes_at : (kind : TokenKind) (b : ℕ) (rest : List ℕ) (n : ℕ) → n ≤ length rest → IsLexeme kind (b ∷ take n rest) (drop n rest)
    → ((k : TokenKind) (t a : List ℕ) → t ++ a ≡ b ∷ rest → IsLexeme k t a → length t ≤ n + 1) → Lexes (b ∷ rest) (Some (kind, n + 1))
lexes_at kind b rest n le stands longest =
    rw add-one (
      omega arith,
      record {
        stands = stands;
        longest = λ k t a e h. let e2 : t ++ a ≡ b ∷ rest = e ∙ ap (λ (l : List ℕ). b ∷ l) (take-append-drop n rest) in
            omega (arith, longest k t a e2 h, length-take-le n rest le);
      },
    )

-- ---- names, numbers and quoted constants

module _ (b : ℕ) (rest : List ℕ) (n : ℕ) (le : n ≤ length rest) where
  pub name_is : IsLetter b → ((k : ℕ) → k < n → IsIn Word (get_or rest k 0)) → (n < length rest → ¬ IsIn Word (get_or rest n 0))
      → Lexes (b ∷ rest) (Some (Name, n + 1))
  name_is letter each stops =
      lexes_at Name b rest n le (record { first = b; others = take n rest; is = refl; letter = letter; words = run_all Word rest n le each }) (λ k t a e h.
      let s = starts k b rest t a e h in
      let name : IsNameText t = of_kind k Name t a (sym s.3 ∙ letter_kind b s.0 letter) h in
      let u-is : s.0 ≡ name.others = cc (sym s.1 ∙ name.is) in
      omega (arith, run_max Word rest n s.0 a s.2 (subst (AllByRecursion (IsIn Word)) (sym u-is) name.words) stops, ap length s.1))

  pub number_is : IsDigit b → ((k : ℕ) → k < n → IsIn Digit (get_or rest k 0)) → (n < length rest → ¬ IsIn Digit (get_or rest n 0))
      → Lexes (b ∷ rest) (Some (Number, n + 1))
  number_is digit each stops =
      lexes_at Number b rest n le (record { first = b; others = take n rest; is = inl refl; digit = digit; digits = run_all Digit rest n le each })
      (λ k t a e h.
      let s = starts k b rest t a e h in
      let number : IsNumberText t = of_kind k Number t a (sym s.3 ∙ digit_kind b s.0 digit) h in
      elim number.is [
        | inl p ↦ let u-is : s.0 ≡ number.others = cc (sym s.1 ∙ p) in
            omega (arith, run_max Digit rest n s.0 a s.2 (subst (AllByRecursion (IsIn Digit)) (sym u-is) number.digits) stops, ap length s.1)
        | inr p ↦ let q : b ≡ 45 = cc (sym s.1 ∙ p) in absurd (omega (arith, digit, q))
      ])

-- `-` before something other than `>` begins nothing but a number
minus_is : (rest : List ℕ) → (0 < length rest → get_or rest 0 0 ≢ 62) → (k : TokenKind) (u a : List ℕ) → u ++ a ≡ rest → kind_of (45 ∷ u) ≡ k → k ≡ Number
minus_is rest free k [] a e p = sym p
minus_is [] free k (x ∷ u) a e p = absurd cc
minus_is (y ∷ rest) free k (x ∷ u) a e p =
    let same : x ≡ y = cc in
    sym p ∙ ap (λ (test : Bool). cond test Arrow Number) (ne_eqb x 62 (λ e. free (omega arith) (sym same ∙ e)))

minus_max : (rest : List ℕ) (n : ℕ) → (0 < length rest → get_or rest 0 0 ≢ 62) → (n < length rest → ¬ IsIn Digit (get_or rest n 0))
    → (k : TokenKind) (t a : List ℕ) → t ++ a ≡ 45 ∷ rest → IsLexeme k t a → (0 < n) × (length t ≤ n + 1)
minus_max rest n free stops k t a e h =
    let s = starts k 45 rest t a e h in
    let number : IsNumberText t = of_kind k Number t a (minus_is rest free k s.0 a s.2 s.3) h in
    elim number.is [
      | inl p ↦ let q : number.first ≡ 45 = cc (sym s.1 ∙ p) in absurd (omega (arith, number.digit, q))
      | inr p ↦ let u-is : s.0 ≡ number.first ∷ number.others = cc (sym s.1 ∙ p) in
          let m = run_max Digit rest n s.0 a s.2 (subst (AllByRecursion (IsIn Digit)) (sym u-is) (number.digit, number.digits)) stops in
          omega (arith, m, ap length s.1, ap length u-is)
    ]

digits_are : (rest : List ℕ) (n : ℕ) → n ≢ 0 → n ≤ length rest → AllByRecursion (IsIn Digit) (take n rest) → IsNumberText (45 ∷ take n rest)
digits_are rest zero ne le all = absurd (ne refl)
digits_are [] (suc n) ne le all = absurd (omega arith)
digits_are (x ∷ rest) (suc n) ne le all = record { first = x; others = take n rest; is = inr refl; digit = all.0; digits = all.1 }

pub negative_is : (rest : List ℕ) (n : ℕ) → (0 < length rest → get_or rest 0 0 ≢ 62) → n ≢ 0 → n ≤ length rest
    → ((k : ℕ) → k < n → IsIn Digit (get_or rest k 0)) → (n < length rest → ¬ IsIn Digit (get_or rest n 0))
    → Lexes (45 ∷ rest) (Some (Number, n + 1))
negative_is rest n free ne le each stops = lexes_at Number 45 rest n le (digits_are rest n ne le (run_all Digit rest n le each))
    (λ k t a e h. (minus_max rest n free stops k t a e h).1)

pub no_number : (rest : List ℕ) → (0 < length rest → get_or rest 0 0 ≢ 62) → (0 < length rest → ¬ IsIn Digit (get_or rest 0 0)) → Lexes (45 ∷ rest) None
no_number rest free stops k t a e h = omega (arith, (minus_max rest 0 free stops k t a e h).0)

quoted_rest : (rest : List ℕ) (k : TokenKind) (t a : List ℕ) → t ++ a ≡ 39 ∷ rest → IsLexeme k t a → (u : List ℕ) × (t ≡ 39 ∷ u) × (u ++ a ≡ rest) × IsClosed u
quoted_rest rest k t a e h =
    let s = starts k 39 rest t a e h in
    let q = of_kind k Quoted t a (sym s.3) h in
    let u-is : s.0 ≡ q.0 = cc (sym s.1 ∙ q.1) in
    (s.0, s.1, s.2, subst IsClosed (sym u-is) q.2)

pub quoted_is : (rest : List ℕ) (n : ℕ) → LongestClosed rest (Some n) → Lexes (39 ∷ rest) (Some (Quoted, n + 1))
quoted_is rest n h = lexes_at Quoted 39 rest n h.0 (take n rest, refl, h.1) (λ k t a e g. let q = quoted_rest rest k t a e g in
    omega (arith, h.2 q.0 a q.2 q.3, ap length q.1))

pub no_quoted : (rest : List ℕ) → LongestClosed rest None → Lexes (39 ∷ rest) None
no_quoted rest h k t a e g = let q = quoted_rest rest k t a e g in h q.0 a q.2 q.3

-- ---- a front that is known

pub lexes_same : (bytes rest : List ℕ) (r : Option (TokenKind × ℕ)) (b : ℕ) → bytes ≡ b ∷ rest → Lexes (b ∷ rest) r → Lexes bytes r
lexes_same bytes rest r b e h = subst (λ (l : List ℕ). Lexes l r) (sym e) h
