-- The texts of tokens of a UTF-8 text are UTF-8.
use Rattle.std.proofs.Common.{◌≡◌, ℕ, zero, suc, ◌+◌, ◌-◌, ◌<◌, inl, inr, List, [], ◌∷◌, ◌++◌, length, take, drop, get_or, refl, sym, ap, subst, ◌∙◌}
use Rattle.std.proofs.Common.{append_assoc, arith}
use Rattle.std.specs.Prelude.{IsUtf8}
use Rattle.std.specs.List.{flat_map, AllByRecursion}
use Rattle.std.specs.Str.{IsAscii}
use Rattle.std.proofs.Math.Seq.{drop-append-add}
use Rattle.std.proofs.lemmas.List.{append-nil, get_or_at, length-append, take_at, take-append-drop, drop-drop}
use Rattle.std.proofs.lemmas.Str.{IsUtf8-append, IsUtf8-drop, IsUtf8-take, IsUtf8-from_ascii, IsCharBoundary-after_ascii, IsCharBoundary-at_seam}
use Rattle.std.proofs.lemmas.Str.Ascii.{IsAscii-nil}
use Rattle.esto_text.specs.Gaps.{IsLetter, IsDigit, IsIn}
use Rattle.esto_text.specs.Lexemes.{IsNameText, IsNumberText, IsLexeme}
use Rattle.esto_text.specs.Quotes.{written, closed}
use Rattle.esto_text.specs.Tokens.{IsToken, text_of, StandsIn}
use Rattle.esto_text.specs.declared.scan.Class.TheVariants.{Word}
use Rattle.esto_text.specs.declared.token.Token.{Token}
use Rattle.esto_text.specs.declared.token.TokenKind.{TokenKind}
use Rattle.esto_text.specs.declared.token.TokenKind.TheVariants.{Name, Number, Quoted}
use Rattle.esto_read.proofs.QuoteLemmas.{written_cases}

abbrev AllSmall : List ℕ → Type 0
AllSmall bs = AllByRecursion (λ b. b < 128) bs

ascii : (bs : List ℕ) → AllSmall bs → IsAscii bs
ascii [] h i = IsAscii-nil i
ascii (b ∷ bs) h zero = h.0
ascii (b ∷ bs) h (suc i) = ascii bs h.1 i

one_ascii : (b : ℕ) → b < 128 → IsUtf8 (b ∷ [])
one_ascii b lt = IsUtf8-from_ascii (b ∷ []) (ascii (b ∷ []) (lt, tt))

-- a text can be cut at an ASCII byte
utf8_cut : (xs ys : List ℕ) (b : ℕ) → b < 128 → IsUtf8 (xs ++ b ∷ ys) → IsUtf8 xs × IsUtf8 ys
utf8_cut xs ys b lt u =
    let bs = xs ++ b ∷ ys in
    let at : get_or bs (length xs) 0 ≡ b = get_or_at xs b ys 0 (length xs) refl in
    let inside : length xs < length bs = omega (arith, length-append xs (b ∷ ys)) in
    let small : get_or bs (length xs) 0 < 128 = subst (λ (n : ℕ). n < 128) (sym at) lt in
    let back : IsUtf8 ys = subst IsUtf8 (drop-append-add xs (b ∷ ys) 1) (IsUtf8-drop bs (length xs + 1) u
    (IsCharBoundary-after_ascii bs (length xs) u inside small)) in
    let rest : IsUtf8 (b ∷ ys) = IsUtf8-append (b ∷ []) ys (one_ascii b lt) back in
    (subst IsUtf8 (take_at xs (b ∷ ys) (length xs) refl) (IsUtf8-take bs (length xs) u (IsCharBoundary-at_seam bs xs (b ∷ ys) refl rest)), back)

-- what is written twice is UTF-8 where its writing is
said_after : (front content : List ℕ) → IsUtf8 (front ++ flat_map written content) → IsUtf8 (front ++ content)
said_after front [] u = u
said_after front (x ∷ xs) u =
    elim (written_cases x) [
      | inl w ↦
          let e : IsUtf8 (front ++ 39 ∷ (39 ∷ flat_map written xs)) = subst (λ (l : List ℕ). IsUtf8 (front ++ (l ++ flat_map written xs))) w.2 u in
          let first = utf8_cut front (39 ∷ flat_map written xs) 39 (omega arith) e in
          let second : IsUtf8 (flat_map written xs) = (utf8_cut [] (flat_map written xs) 39 (omega arith) first.1).1 in
          let rest : IsUtf8 xs = said_after [] xs second in
          subst (λ (n : ℕ). IsUtf8 (front ++ n ∷ xs)) (sym w.0) (IsUtf8-append front (39 ∷ xs) first.0
          (IsUtf8-append (39 ∷ []) xs (one_ascii 39 (omega arith)) rest))
      | inr w ↦
          let e : IsUtf8 (front ++ (x ∷ flat_map written xs)) = subst (λ (l : List ℕ). IsUtf8 (front ++ (l ++ flat_map written xs))) w.1 u in
          let f : IsUtf8 ((front ++ x ∷ []) ++ flat_map written xs) = subst IsUtf8 (sym (append_assoc front (x ∷ []) (flat_map written xs))) e in
          subst IsUtf8 (append_assoc front (x ∷ []) xs) (said_after (front ++ x ∷ []) xs f)
    ]

pub said_utf8 : (content : List ℕ) → IsUtf8 (flat_map written content) → IsUtf8 content
said_utf8 content u = said_after [] content u

-- what is between the quotes of a constant
pub inside_utf8 : (content after : List ℕ) → IsUtf8 (closed content ++ after) → IsUtf8 (flat_map written content)
inside_utf8 content after u =
    (utf8_cut (flat_map written content) after 39 (omega arith) (subst IsUtf8 (append_assoc (flat_map written content) (39 ∷ []) after) u)).0

-- ---- tokens

all_small : (P : ℕ → Type 0) → ((b : ℕ) → P b → b < 128) → (bs : List ℕ) → AllByRecursion P bs → AllSmall bs
all_small P f [] h = tt
all_small P f (b ∷ bs) h = (f b h.0, all_small P f bs h.1)

word_small : (b : ℕ) → IsIn Word b → b < 128
word_small b (inl (inl h)) = omega (arith, h.1)
word_small b (inl (inr h)) = omega (arith, h.1)
word_small b (inr (inl h)) = omega (arith, h.1)
word_small b (inr (inr e)) = omega (arith, e)

letter_small : (b : ℕ) → IsLetter b → b < 128
letter_small b (inl h) = omega (arith, h.1)
letter_small b (inr h) = omega (arith, h.1)

digit_small : (b : ℕ) → IsDigit b → b < 128
digit_small b h = omega (arith, h.1)

name_utf8 : (text : List ℕ) → IsNameText text → IsUtf8 text
name_utf8 text h = subst IsUtf8 (sym h.is) (IsUtf8-from_ascii (h.first ∷ h.others)
    (ascii (h.first ∷ h.others) (letter_small h.first h.letter, all_small (IsIn Word) word_small h.others h.words)))

number_utf8 : (text : List ℕ) → IsNumberText text → IsUtf8 text
number_utf8 text h =
    let digits : AllSmall (h.first ∷ h.others) = (digit_small h.first h.digit, all_small IsDigit digit_small h.others h.digits) in
    elim h.is [
      | inl e ↦ subst IsUtf8 (sym e) (IsUtf8-from_ascii (h.first ∷ h.others) (ascii (h.first ∷ h.others) digits))
      | inr e ↦ subst IsUtf8 (sym e) (IsUtf8-from_ascii (45 ∷ h.first ∷ h.others) (ascii (45 ∷ h.first ∷ h.others) (omega arith, digits)))
    ]

closed_utf8 : (content : List ℕ) → IsUtf8 (flat_map written content) → IsUtf8 (39 ∷ closed content)
closed_utf8 content u = IsUtf8-append (39 ∷ []) (closed content) (one_ascii 39 (omega arith))
    (IsUtf8-append (flat_map written content) (39 ∷ []) u (one_ascii 39 (omega arith)))

-- what is between the quotes of a text
pub inside_is : (text content : List ℕ) → text ≡ 39 ∷ closed content → take ((length text - 1) - 1) (drop 1 text) ≡ flat_map written content
inside_is text content e =
    let n : (length text - 1) - 1 ≡ length (flat_map written content) = omega (arith, ap length e, length-append (flat_map written content) (39 ∷ [])) in
    ap (λ (i : ℕ). take i (drop 1 text)) n ∙ ap (λ (l : List ℕ). take (length (flat_map written content)) (drop 1 l)) e
    ∙ take_at (flat_map written content) (39 ∷ []) (length (flat_map written content)) refl

pub text_inside_utf8 : (text content : List ℕ) → text ≡ 39 ∷ closed content → IsUtf8 text → IsUtf8 (flat_map written content)
text_inside_utf8 text content e u = inside_utf8 content [] (subst IsUtf8 (sym (append-nil (closed content)))
    (utf8_cut [] (closed content) 39 (omega arith) (subst IsUtf8 e u)).1)

module _ (bytes : List ℕ) (u : IsUtf8 bytes) (t : Token) (h : StandsIn bytes t) where
  abbrev text : List ℕ
  text = text_of bytes t

  around : take t.start bytes ++ (text ++ drop t.end bytes) ≡ bytes
  around =
      let end : drop (t.end - t.start) (drop t.start bytes) ≡ drop t.end bytes = drop-drop (t.end - t.start) t.start bytes
      ∙ ap (λ (i : ℕ). drop i bytes) (omega (arith, h.in_order)) in
      ap (λ (l : List ℕ). take t.start bytes ++ (text ++ l)) (sym end) ∙ ap (λ (l : List ℕ). take t.start bytes ++ l)
      (take-append-drop (t.end - t.start) (drop t.start bytes)) ∙ take-append-drop t.start bytes

  pub name_token : t.kind ≡ Name → IsUtf8 text
  name_token e = let k = subst (λ (x : TokenKind). IsToken x text (drop t.end bytes)) e h.is_token in name_utf8 text k.stands

  pub number_token : t.kind ≡ Number → IsUtf8 text
  number_token e = let k = subst (λ (x : TokenKind). IsToken x text (drop t.end bytes)) e h.is_token in number_utf8 text k.stands

  pub quoted_lexeme : t.kind ≡ Quoted → IsLexeme Quoted text []
  quoted_lexeme e = let k = subst (λ (x : TokenKind). IsToken x text (drop t.end bytes)) e h.is_token in k.stands

  pub quoted_token : t.kind ≡ Quoted → IsUtf8 text
  quoted_token e =
      let k = quoted_lexeme e in
      let content = k.2.0 in
      let whole : text ≡ 39 ∷ closed content = k.1 ∙ ap (λ (l : List ℕ). 39 ∷ l) k.2.2 in
      let placed : IsUtf8 (take t.start bytes ++ 39 ∷ (closed content ++ drop t.end bytes)) =
      subst IsUtf8 (sym around ∙ ap (λ (l : List ℕ). take t.start bytes ++ (l ++ drop t.end bytes)) whole) u in
      let after = (utf8_cut (take t.start bytes) (closed content ++ drop t.end bytes) 39 (omega arith) placed).1 in
      subst IsUtf8 (sym whole) (closed_utf8 content (inside_utf8 content (drop t.end bytes) after))
