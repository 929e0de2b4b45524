-- What a token of each kind looks like, and the longest token at a place.
use Rattle.std.specs.Prelude.{◌≡◌, ℕ, ◌≤◌, ◌⊎◌, List, [], ◌∷◌, ◌++◌, length, take, drop, Option, Some, None}
use Rattle.std.specs.List.{AllByRecursion}
use Rattle.esto_text.specs.declared.scan.Class.TheVariants.{Word}
use Rattle.esto_text.specs.declared.token.TokenKind.{TokenKind}
use Rattle.esto_text.specs.declared.token.TokenKind.TheVariants.{Name, Wildcard, Quoted, Number, LeftParen, RightParen, LeftBrace, RightBrace, LeftBracket}
use Rattle.esto_text.specs.declared.token.TokenKind.TheVariants.{RightBracket, Comma, Dot, Colon, Turnstile, Arrow, Equals, Stars, Semicolon, Stray}
use Rattle.esto_text.specs.Gaps.{IsLetter, IsDigit, IsIn, BeginsWithout}
use Rattle.esto_text.specs.Quotes.{IsClosed}

-- A name: an ASCII letter, then ASCII letters, digits and `_`.
pub record IsNameText (text : List ℕ) : Type 0 where
  pub first : ℕ
  pub others : List ℕ
  pub is : text ≡ first ∷ others
  pub letter : IsLetter first
  pub words : AllByRecursion (IsIn Word) others

-- A number: `-` or nothing, then one or more digits.
pub record IsNumberText (text : List ℕ) : Type 0 where
  pub first : ℕ
  pub others : List ℕ
  pub is : (text ≡ first ∷ others) ⊎ (text ≡ 45 ∷ first ∷ others)
  pub digit : IsDigit first
  pub digits : AllByRecursion IsDigit others

-- The text is a token of the kind, where these bytes come after it. A Stray is none of these.
abbrev pub IsLexeme : TokenKind → List ℕ → List ℕ → Type 0
IsLexeme Name text after = IsNameText text
IsLexeme Wildcard text after = (text ≡ 95 ∷ []) × BeginsWithout Word after
IsLexeme Quoted text after = (others : List ℕ) × (text ≡ 39 ∷ others) × IsClosed others
IsLexeme Number text after = IsNumberText text
IsLexeme LeftParen text after = text ≡ 40 ∷ []
IsLexeme RightParen text after = text ≡ 41 ∷ []
IsLexeme LeftBrace text after = text ≡ 123 ∷ []
IsLexeme RightBrace text after = text ≡ 125 ∷ []
IsLexeme LeftBracket text after = text ≡ 91 ∷ []
IsLexeme RightBracket text after = text ≡ 93 ∷ []
IsLexeme Comma text after = text ≡ 44 ∷ []
IsLexeme Dot text after = text ≡ 46 ∷ []
IsLexeme Colon text after = text ≡ 58 ∷ []
IsLexeme Turnstile text after = text ≡ 58 ∷ 45 ∷ []
IsLexeme Arrow text after = text ≡ 45 ∷ 62 ∷ []
IsLexeme Equals text after = text ≡ 61 ∷ []
IsLexeme Stars text after = text ≡ 42 ∷ 42 ∷ []
IsLexeme Semicolon text after = text ≡ 59 ∷ []
IsLexeme Stray text after = ⊥

-- The text is a token of the kind, and no longer token stands at its place.
pub record IsLongest (kind : TokenKind) (text after : List ℕ) : Type 0 where
  pub stands : IsLexeme kind text after
  pub longest : (k : TokenKind) (t a : List ℕ) → t ++ a ≡ text ++ after → IsLexeme k t a → length t ≤ length text

-- No token stands there.
abbrev pub NoLexeme : List ℕ → Type 0
NoLexeme bytes = (k : TokenKind) (t a : List ℕ) → t ++ a ≡ bytes → ¬ IsLexeme k t a

-- The kind and the length of the longest token at the front.
abbrev pub Lexes : List ℕ → Option (TokenKind × ℕ) → Type 0
Lexes bytes None = NoLexeme bytes
Lexes bytes (Some x) = (x.1 ≤ length bytes) × IsLongest x.0 (take x.1 bytes) (drop x.1 bytes)
