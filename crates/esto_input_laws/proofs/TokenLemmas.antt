-- Bytes that are UTF-8 have tokens.
use Rattle.std.proofs.Common.{◌≡◌, ◌≢◌, ℕ, zero, suc, ◌+◌, ◌<◌, ◌≤◌, ◌⊎◌, inl, inr, Bool, true, false, List, [], ◌∷◌, ◌++◌, length, take, drop, Option, Some}
use Rattle.std.proofs.Common.{None, refl, sym, ap, subst, ◌∙◌, arith}
use Rattle.std.specs.List.{AllByRecursion}
use Rattle.std.specs.Prelude.{IsUtf8}
use Rattle.std.specs.Str.{is_utf8}
use Rattle.std.proofs.lemmas.Bool.{cases_eq}
use Rattle.std.proofs.lemmas.List.{append-nil, length-append, length-take-le, take-append-drop, take_at}
use Rattle.std.proofs.lemmas.Str.{IsUtf8-from_is_utf8, is_utf8-from_IsUtf8}
use Rattle.std.proofs.Math.Seq.{drop-append_seam}
use Rattle.esto_term.proofs.ChoiceLemmas.{Decided, decided_as, decided_both, decided_either}
use Rattle.esto_text.proofs.LexemeLemmas.{kind_of, kind_is, nil_of}
use Rattle.esto_text.proofs.ScanLemmas.{StateQ, not_closed_nil, closed_cons, quote_cons, inside_cons}
use Rattle.esto_text.proofs.Covering.{is_token}
use Rattle.esto_text.specs.Gaps.{IsLetter, IsDigit, IsIn, IsGap, IsComment, BeginsNoGap, BeginsWithout}
use Rattle.esto_text.specs.Lexemes.{IsNameText, IsNumberText, IsLexeme, Lexes}
use Rattle.esto_text.specs.Quotes.{IsClosed}
use Rattle.esto_text.specs.Tokens.{Covers, AreTokens}
use Rattle.esto_text.specs.declared.scan.Class.{Class}
use Rattle.esto_text.specs.declared.scan.Class.TheVariants.{Letter, Digit, Word, Blank}
use Rattle.esto_text.specs.declared.token.Token.{Token}
use Rattle.esto_text.specs.declared.token.TokenKind.{TokenKind}
use Rattle.esto_text.specs.declared.token.TokenKind.TheVariants.{Name, Wildcard, Quoted, Number, LeftParen, RightParen, LeftBrace, RightBrace, LeftBracket}
use Rattle.esto_text.specs.declared.token.TokenKind.TheVariants.{RightBracket, Comma, Dot, Colon, Turnstile, Arrow, Equals, Stars, Semicolon, Stray}
use Rattle.esto_term.proofs.DecisionLemmas.{at_most, same_bytes, all_of, greatest}

-- ---- bytes

letter : (b : ℕ) → Decided (IsLetter b)
letter b = decided_either (decided_both (at_most 65 b) (at_most b 90)) (decided_both (at_most 97 b) (at_most b 122))

digit : (b : ℕ) → Decided (IsDigit b)
digit b = decided_both (at_most 48 b) (at_most b 57)

in_class : (class : Class) (b : ℕ) → Decided (IsIn class b)
in_class Letter b = letter b
in_class Digit b = digit b
in_class Word b = decided_either (letter b) (decided_either (digit b) (cases_eq b 95))
in_class Blank b = decided_either (cases_eq b 32) (decided_either (cases_eq b 9) (decided_either (cases_eq b 13) (cases_eq b 10)))

-- ---- gaps

mutual
  pub gap_of : (bytes : List ℕ) → (gap rest : List ℕ) × (bytes ≡ gap ++ rest) × IsGap gap rest × BeginsNoGap rest
  gap_of [] = ([], [], refl, tt, tt)
  gap_of (b ∷ bytes) = by (cases_eq b 35) (in_class Blank b) (gap_of bytes) (comment_of bytes)
    where
      by : Decided (b ≡ 35) → Decided (IsIn Blank b) → ((gap rest : List ℕ) × (bytes ≡ gap ++ rest) × IsGap gap rest × BeginsNoGap rest)
          → ((gap rest : List ℕ) × (bytes ≡ gap ++ rest) × IsComment gap rest × BeginsNoGap rest)
          → (gap rest : List ℕ) × (b ∷ bytes ≡ gap ++ rest) × IsGap gap rest × BeginsNoGap rest
      by (inl hash) blank inside (gap, rest, e, g, n) = (b ∷ gap, rest, ap (λ (l : List ℕ). b ∷ l) e, inr (hash, g), n)
      by (inr other) (inl blank) (gap, rest, e, g, n) inside = (b ∷ gap, rest, ap (λ (l : List ℕ). b ∷ l) e, inl (blank, g), n)
      by (inr other) (inr no_blank) later inside = ([], b ∷ bytes, refl, tt, (other, no_blank))

  comment_of : (bytes : List ℕ) → (gap rest : List ℕ) × (bytes ≡ gap ++ rest) × IsComment gap rest × BeginsNoGap rest
  comment_of [] = ([], [], refl, refl, tt)
  comment_of (b ∷ bytes) = by (cases_eq b 10) (gap_of bytes) (comment_of bytes)
    where
      by : Decided (b ≡ 10) → ((gap rest : List ℕ) × (bytes ≡ gap ++ rest) × IsGap gap rest × BeginsNoGap rest)
          → ((gap rest : List ℕ) × (bytes ≡ gap ++ rest) × IsComment gap rest × BeginsNoGap rest)
          → (gap rest : List ℕ) × (b ∷ bytes ≡ gap ++ rest) × IsComment gap rest × BeginsNoGap rest
      by (inl end) (gap, rest, e, g, n) inside = (b ∷ gap, rest, ap (λ (l : List ℕ). b ∷ l) e, inl (end, g), n)
      by (inr other) later (gap, rest, e, g, n) = (b ∷ gap, rest, ap (λ (l : List ℕ). b ∷ l) e, inr (other, g), n)

-- ---- whether bytes are a token of a kind

name_text : (text : List ℕ) → Decided (IsNameText text)
name_text [] = inr (λ h. let e = h.is in absurd cc)
name_text (b ∷ text) = decided_as (
  λ h. record { first = b; others = text; is = refl; letter = h.0; words = h.1 },
  λ h. let first : h.first ≡ b = let e = h.is in cc in let others : h.others ≡ text = let e = h.is in cc in
      (subst IsLetter first h.letter, subst (AllByRecursion (IsIn Word)) others h.words),
)
    (decided_both (letter b) (all_of (IsIn Word) (in_class Word) text))

-- one or more digits
abbrev AreDigits : List ℕ → Type 0
AreDigits [] = ⊥
AreDigits (b ∷ text) = IsDigit b × AllByRecursion IsDigit text

digits : (text : List ℕ) → Decided (AreDigits text)
digits [] = inr (λ h. h)
digits (b ∷ text) = decided_both (digit b) (all_of IsDigit digit text)

signed_text : (text : List ℕ) → Decided ((rest : List ℕ) × (text ≡ 45 ∷ rest) × AreDigits rest)
signed_text [] = inr (λ (rest, e, h). cc)
signed_text (b ∷ text) = decided_as
    (λ (is, h). (text, ap (λ (x : ℕ). x ∷ text) is, h), λ (rest, e, h). let same : rest ≡ text = cc in (cc, subst AreDigits same h))
    (decided_both (cases_eq b 45) (digits text))

number_text : (text : List ℕ) → Decided (IsNumberText text)
number_text text = decided_as (to, from) (decided_either (digits text) (signed_text text))
  where
    plain : (text : List ℕ) → AreDigits text → IsNumberText text
    plain [] h = absurd h
    plain (b ∷ text) h = record { first = b; others = text; is = inl refl; digit = h.0; digits = h.1 }

    signed : (rest : List ℕ) → text ≡ 45 ∷ rest → AreDigits rest → IsNumberText text
    signed [] e h = absurd h
    signed (b ∷ rest) e h = record { first = b; others = rest; is = inr e; digit = h.0; digits = h.1 }

    to : (AreDigits text ⊎ ((rest : List ℕ) × (text ≡ 45 ∷ rest) × AreDigits rest)) → IsNumberText text
    to (inl h) = plain text h
    to (inr (rest, e, h)) = signed rest e h

    from : IsNumberText text → AreDigits text ⊎ ((rest : List ℕ) × (text ≡ 45 ∷ rest) × AreDigits rest)
    from h = elim h.is [
      | inl e ↦ inl (subst AreDigits (sym e) (h.digit, h.digits))
      | inr e ↦ inr (h.first ∷ h.others, e, (h.digit, h.digits))
    ]

-- what stands inside a quoted constant, and what may stand behind a quote that may be its last
quoted_rest : (behind_quote : Bool) (text : List ℕ) → Decided (StateQ behind_quote text)
quoted_rest true [] = inl (inl refl)
quoted_rest false [] = inr not_closed_nil
quoted_rest true (b ∷ text) = by (cases_eq b 39) (quoted_rest false text)
  where
    by : Decided (b ≡ 39) → Decided (IsClosed text) → Decided (StateQ true (b ∷ text))
    by (inl quote) (inl h) = inl (inr (text, ap (λ (x : ℕ). x ∷ text) quote, h))
    by (inl quote) (inr never) = inr (λ s. elim s [ inl e ↦ absurd cc | inr h ↦ let e = h.1 in let same : h.0 ≡ text = cc in never (subst IsClosed same h.2) ])
    by (inr other) h = inr (λ s. elim s [ inl e ↦ absurd cc | inr h ↦ let e = h.1 in other cc ])
quoted_rest false (b ∷ text) = by (cases_eq b 39) (at_most 32 b) (quoted_rest true text) (quoted_rest false text)
  where
    by : Decided (b ≡ 39) → Decided (32 ≤ b) → Decided (StateQ true text) → Decided (IsClosed text) → Decided (IsClosed (b ∷ text))
    by (inl quote) high (inl h) inside = inl (quote_cons b text quote h)
    by (inl quote) high (inr never) inside = inr (λ s. elim (closed_cons b text s) [ inl w ↦ never w.1 | inr w ↦ w.0 quote ])
    by (inr other) (inl high) behind (inl h) = inl (inside_cons b text other high h)
    by (inr other) (inl high) behind (inr never) = inr (λ s. elim (closed_cons b text s) [ inl w ↦ other w.0 | inr w ↦ never w.2 ])
    by (inr other) (inr low) behind inside = inr (λ s. elim (closed_cons b text s) [ inl w ↦ other w.0 | inr w ↦ low w.1 ])

quoted_text : (text : List ℕ) → Decided ((others : List ℕ) × (text ≡ 39 ∷ others) × IsClosed others)
quoted_text [] = inr (λ (others, e, h). cc)
quoted_text (b ∷ text) = decided_as
    (λ (is, h). (text, ap (λ (x : ℕ). x ∷ text) is, h), λ (others, e, h). let same : others ≡ text = cc in (cc, subst IsClosed same h))
    (decided_both (cases_eq b 39) (quoted_rest false text))

begins_without : (class : Class) (bytes : List ℕ) → Decided (BeginsWithout class bytes)
begins_without class [] = inl tt
begins_without class (b ∷ bytes) = elim (in_class class b) [ inl holds ↦ inr (λ never'. never' holds) | inr never' ↦ inl never' ]

lexeme : (k : TokenKind) (text after : List ℕ) → Decided (IsLexeme k text after)
lexeme Name text after = name_text text
lexeme Wildcard text after = decided_both (same_bytes text (95 ∷ [])) (begins_without Word after)
lexeme Quoted text after = quoted_text text
lexeme Number text after = number_text text
lexeme LeftParen text after = same_bytes text (40 ∷ [])
lexeme RightParen text after = same_bytes text (41 ∷ [])
lexeme LeftBrace text after = same_bytes text (123 ∷ [])
lexeme RightBrace text after = same_bytes text (125 ∷ [])
lexeme LeftBracket text after = same_bytes text (91 ∷ [])
lexeme RightBracket text after = same_bytes text (93 ∷ [])
lexeme Comma text after = same_bytes text (44 ∷ [])
lexeme Dot text after = same_bytes text (46 ∷ [])
lexeme Colon text after = same_bytes text (58 ∷ [])
lexeme Turnstile text after = same_bytes text (58 ∷ 45 ∷ [])
lexeme Arrow text after = same_bytes text (45 ∷ 62 ∷ [])
lexeme Equals text after = same_bytes text (61 ∷ [])
lexeme Stars text after = same_bytes text (42 ∷ 42 ∷ [])
lexeme Semicolon text after = same_bytes text (59 ∷ [])
lexeme Stray text after = inr (λ h. h)

-- ---- the longest token

module _ (bytes : List ℕ) where
  -- so many bytes at the front are a token
  abbrev IsLexemeOf : ℕ → Type 0
  IsLexemeOf n = (k : TokenKind) × IsLexeme k (take n bytes) (drop n bytes)

  lexeme_of : (n : ℕ) → Decided (IsLexemeOf n)
  lexeme_of n = decided_as (
    λ h. (kind_of (take n bytes), h),
    λ (k, h). subst (λ (x : TokenKind). IsLexeme x (take n bytes) (drop n bytes)) (sym (kind_is k (take n bytes) (drop n bytes) h)) h,
  )
      (lexeme (kind_of (take n bytes)) (take n bytes) (drop n bytes))

  -- what stands at the front is so many bytes of it
  front_lexeme : (k : TokenKind) (t a : List ℕ) → t ++ a ≡ bytes → IsLexeme k t a → (length t ≤ length bytes) × IsLexemeOf (length t)
  front_lexeme k t a e h =
      let front : t ≡ take (length t) bytes = sym (take_at t a (length t) refl) ∙ ap (take (length t)) e in
      let back : a ≡ drop (length t) bytes = sym (drop-append_seam t a) ∙ ap (drop (length t)) e in (
        omega (arith, length-append t a, ap length e),
        (k, subst (λ (l : List ℕ). IsLexeme k l (drop (length t) bytes)) front (subst (IsLexeme k t) back h)),
      )

  pub longest_of : (found : Option (TokenKind × ℕ)) × Lexes bytes found
  longest_of = elim (greatest IsLexemeOf lexeme_of (length bytes)) [
    | inl (n, le, (k, h), most) ↦ (
      Some (k, n),
      (
        le,
        record {
          stands = h;
          longest = λ k' t a e g.
              let at = front_lexeme k' t a (e ∙ take-append-drop n bytes) g in
              omega (arith, most (length t) at.0 at.1, length-take-le n bytes le);
        },
      ),
    )
    | inr none ↦ (None, λ k t a e h. let at = front_lexeme k t a e h in none (length t) at.0 at.1)
  ]

-- ---- all tokens

-- so of each list of no more bytes than these
abbrev CoveredLater : ℕ → Type 0
CoveredLater fuel = (at : ℕ) (bytes : List ℕ) → length bytes ≤ fuel → (tokens : List Token) × Covers at bytes tokens

covered : (fuel at : ℕ) (bytes : List ℕ) → length bytes ≤ fuel → (tokens : List Token) × Covers at bytes tokens
covered fuel at [] short = ([], tt)
covered zero at (b ∷ bytes) short = absurd (omega (arith, short))
covered (suc fuel) at (b ∷ bytes) short = by (gap_of (b ∷ bytes)) (covered fuel)
  where
    -- a token behind a gap
    behind : (gap rest : List ℕ) → b ∷ bytes ≡ gap ++ rest → IsGap gap rest → BeginsNoGap rest → rest ≢ []
        → ((found : Option (TokenKind × ℕ)) × Lexes rest found) → CoveredLater fuel
        → (tokens : List Token) × Covers at (b ∷ bytes) tokens
    behind gap rest e g n some (None, none) later =
        let token : Token = record { kind = Stray; start = at + length gap; end = (at + length gap) + length rest } in
        let whole : rest ++ [] ≡ rest = append-nil rest in (
          token ∷ [],
          (
            gap,
            rest,
            [],
            record {
              parts = e ∙ ap (λ (l : List ℕ). gap ++ l) (sym whole);
              is_gap = subst (IsGap gap) (sym whole) g;
              starts = refl;
              ends = refl;
              is_token = (some, refl, n, none);
            },
            tt,
          ),
        )
    behind gap rest e g n some (Some (k, size), (le, longest)) later =
        let text = take size rest in
        let after = drop size rest in
        let whole : text ++ after ≡ rest = take-append-drop size rest in
        let token : Token = record { kind = k; start = at + length gap; end = (at + length gap) + length text } in
        let long : 0 < length text = positive text (λ none. nil_of k after (subst (λ (l : List ℕ). IsLexeme k l after) none longest.stands)) in
        let fits : length after ≤ fuel = omega (arith, short, ap length e, length-append gap rest, ap length whole, length-append text after, long) in
        let more = later token.end after fits in (
          token ∷ more.0,
          (
            gap,
            text,
            after,
            record {
              parts = e ∙ ap (λ (l : List ℕ). gap ++ l) (sym whole);
              is_gap = subst (IsGap gap) (sym whole) g;
              starts = refl;
              ends = refl;
              is_token = is_token k text after longest;
            },
            more.1,
          ),
        )
      where
        positive : (l : List ℕ) → l ≢ [] → 0 < length l
        positive [] ne = absurd (ne refl)
        positive (x ∷ l) ne = omega arith

    by : ((gap rest : List ℕ) × (b ∷ bytes ≡ gap ++ rest) × IsGap gap rest × BeginsNoGap rest)
        → CoveredLater fuel
        → (tokens : List Token) × Covers at (b ∷ bytes) tokens
    by (gap, [], e, g, n) later = ([], subst (λ (l : List ℕ). IsGap l []) (sym (e ∙ append-nil gap)) g)
    by (gap, x ∷ rest, e, g, n) later = behind gap (x ∷ rest) e g n (λ none. cc) (longest_of (x ∷ rest)) later

pub utf8 : (bytes : List ℕ) → Decided (IsUtf8 bytes)
utf8 bytes = go (is_utf8 bytes) refl
  where
    go : (b : Bool) → is_utf8 bytes ≡ b → Decided (IsUtf8 bytes)
    go true e = inl (IsUtf8-from_is_utf8 bytes e)
    go false e = inr (λ h. let f = is_utf8-from_IsUtf8 bytes h in cc)

pub tokens_of : (bytes : List ℕ) → IsUtf8 bytes → (tokens : List Token) × AreTokens bytes tokens
tokens_of bytes h = let all = covered (length bytes) 0 bytes (omega arith) in (all.0, (h, all.1))

pub have_tokens : (bytes : List ℕ) → (¬ IsUtf8 bytes) ⊎ ((tokens : List Token) × AreTokens bytes tokens)
have_tokens bytes = elim (utf8 bytes) [ inl h ↦ inr (tokens_of bytes h) | inr never ↦ inl never ]
