-- The terms that tokens are.
use Rattle.std.specs.Prelude.{◌≡◌, ◌⊎◌, ℕ, List, [], ◌∷◌, ◌++◌, Some, length, slice_get, Contains}
use Rattle.std.specs.List.{flat_map}
use Rattle.esto_query.specs.declared.query.Name.{Name}
use Rattle.esto_query.specs.declared.query.Name.TheVariants.{Given, Hidden}
use Rattle.esto_term.specs.declared.term.Term.{Term}
use Rattle.esto_term.specs.declared.term.Term.TheVariants.{Const, Plain}
use Rattle.esto_text.specs.Quotes.{written, closed}
use Rattle.esto_text.specs.Tokens.{text_of}
use Rattle.esto_text.specs.declared.token.Token.{Token}
use Rattle.esto_text.specs.declared.token.TokenKind.{TokenKind}
use Rattle.esto_text.specs.declared.token.TokenKind.TheVariants.{Wildcard, Quoted, Number}
use Rattle.esto_text.specs.declared.token.TokenKind.TheVariants as kind

-- The bytes are something with each quote written twice.
abbrev pub IsWritten : List ℕ → Type 0
IsWritten bytes = (content : List ℕ) × (bytes ≡ flat_map written content)

-- The variable of a name, where these names came before it, and the names after it: a name that came before has its number, and a new one the next.
abbrev pub IsVariableOf : List ℕ → List Name → Term → List Name → Type 0
IsVariableOf name before term after =
    ((number : ℕ) × (slice_get before number ≡ Some (Given name)) × (term ≡ Plain number) × (after ≡ before))
    ⊎ (¬ Contains before (Given name) × (term ≡ Plain (length before)) × (after ≡ before ++ Given name ∷ []))

-- The term that a token of the kind and text is, where these names came before it, and the names after it. A wildcard is a new variable with no name; a quoted
-- constant says what is between its quotes, and a number itself.
abbrev pub IsTermOf : TokenKind → List ℕ → List Name → Term → List Name → Type 0
IsTermOf kind.Name text before term after = IsVariableOf text before term after
IsTermOf Wildcard text before term after = (term ≡ Plain (length before)) × (after ≡ before ++ Hidden ∷ [])
IsTermOf Quoted text before term after = (content : List ℕ) × (text ≡ 39 ∷ closed content) × (term ≡ Const content) × (after ≡ before)
IsTermOf Number text before term after = (term ≡ Const text) × (after ≡ before)
IsTermOf _ text before term after = ⊥

-- The terms that tokens are, from left to right.
abbrev pub AreTerms : List ℕ → List Name → List Token → List Term → List Name → Type 0
AreTerms bytes before [] [] after = after ≡ before
AreTerms bytes before [] (term ∷ terms) after = ⊥
AreTerms bytes before (token ∷ tokens) [] after = ⊥
AreTerms bytes before (token ∷ tokens) (term ∷ terms) after =
    (between : List Name) × IsTermOf token.kind (text_of bytes token) before term between × AreTerms bytes between tokens terms after
