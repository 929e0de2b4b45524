-- The tokens of a text.
use Rattle.std.specs.Prelude.{◌≡◌, ◌≢◌, ℕ, ◌+◌, ◌-◌, ◌≤◌, List, [], ◌∷◌, ◌++◌, length, take, drop, IsUtf8}
use Rattle.esto_text.specs.declared.token.TokenKind.{TokenKind}
use Rattle.esto_text.specs.declared.token.TokenKind.TheVariants.{Stray}
use Rattle.esto_text.specs.declared.token.Token.{Token}
use Rattle.esto_text.specs.declared.fault.TextFault.{TextFault}
use Rattle.esto_text.specs.declared.fault.TextKind.TheVariants.{Utf8}
use Rattle.esto_text.specs.declared.fault.ReadError.{ReadError}
use Rattle.esto_text.specs.declared.fault.ReadError.TheVariants.{Fault, OutOfMemory}
use Rattle.esto_text.specs.Gaps.{IsGap, BeginsNoGap}
use Rattle.esto_text.specs.Lexemes.{IsLongest, NoLexeme}

-- A token of the kind stands there: the longest one, or the rest of the text where none stands.
abbrev pub IsToken : TokenKind → List ℕ → List ℕ → Type 0
IsToken Stray text after = (text ≢ []) × (after ≡ []) × BeginsNoGap text × NoLexeme text
IsToken kind text after = IsLongest kind text after

-- From this place on stand a gap, the token's text, and what comes after it.
pub record Places (at : ℕ) (bytes : List ℕ) (token : Token) (gap text after : List ℕ) : Type 0 where
  pub parts : bytes ≡ gap ++ (text ++ after)
  pub is_gap : IsGap gap (text ++ after)
  pub starts : token.start ≡ at + length gap
  pub ends : token.end ≡ token.start + length text
  pub is_token : IsToken token.kind text after

-- From this place on the bytes are the tokens and the gaps between them.
abbrev pub Covers : ℕ → List ℕ → List Token → Type 0
Covers at bytes [] = IsGap bytes []
Covers at bytes (token ∷ tokens) =
    (gap text after : List ℕ) × Places at bytes token gap text after × Covers token.end after tokens

-- The bytes are UTF-8, and these are their tokens.
abbrev pub AreTokens : List ℕ → List Token → Type 0
AreTokens bytes tokens = IsUtf8 bytes × Covers 0 bytes tokens

-- The bytes at which the token stands.
abbrev pub text_of : List ℕ → Token → List ℕ
text_of bytes token = take (token.end - token.start) (drop token.start bytes)

-- The token stands in the bytes, at its place.
pub record StandsIn (bytes : List ℕ) (token : Token) : Type 0 where
  pub in_order : token.start ≤ token.end
  pub in_range : token.end ≤ length bytes
  pub is_token : IsToken token.kind (text_of bytes token) (drop token.end bytes)

-- The fault of bytes that are not UTF-8.
abbrev pub utf8_fault : TextFault
utf8_fault = record { offset = 0; kind = Utf8 }

-- Why bytes have no tokens: they are not UTF-8, or, for bytes that are, memory is wanting.
abbrev pub IsTokenError : List ℕ → ReadError → Type 0
IsTokenError bytes (Fault fault) = (fault ≡ utf8_fault) × ¬ IsUtf8 bytes
IsTokenError bytes OutOfMemory = IsUtf8 bytes

-- No other list is the text's tokens.
abbrev pub AreOnlyTokens : List ℕ → List Token → Type 0
AreOnlyTokens bytes tokens = (others : List Token) → AreTokens bytes others → tokens ≡ others

-- A text has one list of tokens.
abbrev pub AreDetermined : Type 0
AreDetermined = (bytes : List ℕ) (tokens : List Token) → AreTokens bytes tokens → AreOnlyTokens bytes tokens
