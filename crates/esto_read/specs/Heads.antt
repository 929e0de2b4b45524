-- What is wrong with a head.
use Rattle.std.specs.Prelude.{◌≡◌, ℕ, ◌<◌, List, Some, take, slice_get, Contains}
use Rattle.esto_semantics.specs.Facts.{Mentions}
use Rattle.esto_semantics.specs.declared.fact.Fact.{Fact}
use Rattle.esto_term.specs.declared.term.Term.{Term}
use Rattle.esto_text.specs.Tokens.{text_of}
use Rattle.esto_text.specs.declared.token.Token.{Token}

-- One of the tokens has the text.
abbrev pub HasText : List ℕ → List Token → List ℕ → Type 0
HasText bytes tokens text = (token : Token) × Contains tokens token × (text_of bytes token ≡ text)

-- The variable of the head at this place is this token, and its name stands earlier in the head too.
abbrev pub IsRepeat : List ℕ → List Token → ℕ → Token → Type 0
IsRepeat bytes variables place token =
    (slice_get variables place ≡ Some token) × HasText bytes (take place variables) (text_of bytes token)

-- No name stands in the head twice.
abbrev pub AreDifferent : List ℕ → List Token → Type 0
AreDifferent bytes variables = (place : ℕ) (token : Token) → ¬ IsRepeat bytes variables place token

-- There begins the first name of the head that stands earlier too.
abbrev pub IsFirstRepeat : List ℕ → List Token → ℕ → Type 0
IsFirstRepeat bytes variables offset =
    (place : ℕ) × (token : Token) × IsRepeat bytes variables place token × (offset ≡ token.start)
    × ((before : ℕ) (other : Token) → before < place → ¬ IsRepeat bytes variables before other)

-- The atoms mention each term of the head.
abbrev pub AreMentioned : List (Fact Term) → List Term → Type 0
AreMentioned body head = (term : Term) → Contains head term → Mentions body term

-- At this place stands the first term of the head that the atoms do not mention.
abbrev pub IsFirstMissing : List (Fact Term) → List Term → ℕ → Type 0
IsFirstMissing body head place =
    (term : Term) × (slice_get head place ≡ Some term) × ¬ (Mentions body term) × AreMentioned body (take place head)
