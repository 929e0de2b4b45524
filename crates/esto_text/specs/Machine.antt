-- What may come next, by the first token alone. Only the private contracts of the readers speak of it.
use Rattle.std.specs.Prelude.{◌≡◌, ◌≢◌, ℕ, suc, ◌+◌, Bool, true, false, nat_lt, if◌then◌else◌, List, [], ◌∷◌, ◌++◌, length, Option, Some, None}
use Rattle.esto_text.specs.declared.groups.TheConstants.{MAX_OPEN}
use Rattle.esto_text.specs.declared.stop.Stop.{Stop}
use Rattle.esto_text.specs.declared.stop.Stop.TheVariants.{Syntax, OutOfMemory}
use Rattle.esto_text.specs.declared.token.Token.{Token}
use Rattle.esto_text.specs.declared.token.TokenKind.{TokenKind}
use Rattle.esto_text.specs.declared.token.TokenKind.TheVariants.{Name, Quoted, LeftParen, RightParen, LeftBrace, RightBrace, LeftBracket, RightBracket, Comma}
use Rattle.esto_text.specs.declared.token.TokenKind.TheVariants.{Dot, Colon, Turnstile, Arrow, Equals, Stars, Semicolon, Stray}
use Rattle.esto_text.specs.Faults.{StopsAt}
use Rattle.esto_text.specs.Grammar.{class_of, is_term, IsConstraint, IsQuery, IsUnion}
use Rattle.esto_text.specs.Limits.{limited, limited_union}
use Rattle.esto_text.specs.Trees.{ConstraintTree, QueryTree}

-- A part of the grammar that is still to come. An entry and its rest have the number of open braces.
pub data Symbol : Type 0 where
  AName ATerm ANext AParen ABracket ATurnstile MoreNames MoreTerms AnItem ItemRest MoreItems MoreBody AHead HeadRest AGroup : Symbol
  AnEntry : ℕ → Symbol
  PathRest : ℕ → Symbol
  MoreEntries : ℕ → Symbol

-- What comes after a head.
abbrev pub after_head : List Symbol
after_head = ATurnstile ∷ AnItem ∷ MoreItems ∷ []

-- A whole query or view.
abbrev pub start : List Symbol
start = AName ∷ AParen ∷ AName ∷ MoreNames ∷ after_head

-- A whole constraint.
abbrev pub constraint_start : List Symbol
constraint_start = AnItem ∷ MoreBody ∷ AHead ∷ []

-- A whole layout.
abbrev pub layout_start : List Symbol
layout_start = AGroup ∷ []

-- What takes the symbol's place when a token of the kind is read.
abbrev pub step : Symbol → TokenKind → Option (List Symbol)
step AName Name = Some []
step ATerm kind = if is_term kind then Some [] else None
step ANext Name = Some []
step ANext Quoted = Some []
step ANext Stars = Some []
step AParen LeftParen = Some []
step ABracket RightBracket = Some []
step ATurnstile Turnstile = Some []
step MoreNames Comma = Some (AName ∷ MoreNames ∷ [])
step MoreNames RightParen = Some []
step MoreTerms Comma = Some (ATerm ∷ MoreTerms ∷ [])
step MoreTerms RightParen = Some []
step AnItem Name = Some (ItemRest ∷ [])
step ItemRest LeftParen = Some (ATerm ∷ MoreTerms ∷ [])
step ItemRest Dot = Some (AName ∷ AParen ∷ ATerm ∷ MoreTerms ∷ [])
step ItemRest LeftBrace = Some (AnEntry 1 ∷ MoreEntries 1 ∷ [])
step MoreItems Comma = Some (AnItem ∷ MoreItems ∷ [])
step MoreBody Comma = Some (AnItem ∷ MoreBody ∷ [])
step MoreBody Arrow = Some []
step AHead Name = Some (HeadRest ∷ [])
step HeadRest Equals = Some (ATerm ∷ [])
step HeadRest LeftParen = Some (ATerm ∷ MoreTerms ∷ MoreItems ∷ [])
step HeadRest Dot = Some (AName ∷ AParen ∷ ATerm ∷ MoreTerms ∷ MoreItems ∷ [])
step HeadRest LeftBrace = Some (AnEntry 1 ∷ MoreEntries 1 ∷ MoreItems ∷ [])
step AGroup LeftBrace = Some (AnEntry 1 ∷ MoreEntries 1 ∷ [])
step (AnEntry n) Name = Some (PathRest n ∷ [])
step (AnEntry n) Quoted = Some (PathRest n ∷ [])
step (AnEntry n) Stars = Some (PathRest n ∷ [])
step (AnEntry n) LeftBracket = Some (ABracket ∷ PathRest n ∷ [])
step (PathRest n) Dot = Some (ANext ∷ PathRest n ∷ [])
step (PathRest n) LeftBracket = Some (ABracket ∷ PathRest n ∷ [])
step (PathRest n) Colon = Some (ATerm ∷ [])
step (PathRest n) LeftBrace = if nat_lt n MAX_OPEN then Some (AnEntry (suc n) ∷ MoreEntries (suc n) ∷ []) else None
step (MoreEntries n) Comma = Some (AnEntry n ∷ MoreEntries n ∷ [])
step (MoreEntries n) RightBrace = Some []
step _ _ = None

-- Nothing more need come.
abbrev pub is_done : List Symbol → Bool
is_done [] = true
is_done (MoreItems ∷ []) = true
is_done _ = false

-- What is still to come after a token of the kind.
abbrev pub advance : List Symbol → TokenKind → Option (List Symbol)
advance [] kind = None
advance (x ∷ xs) kind = elim (step x kind) [ Some new ↦ Some (new ++ xs) | None ↦ None ]

-- The rest from the first token on that does not fit, or the empty rest where more need come; none where there is neither.
abbrev pub first_fault : List Symbol → List Token → Option (List Token)
first_fault xs [] = if is_done xs then None else Some []
first_fault xs (t ∷ ts) = elim (advance xs (class_of t)) [ Some new ↦ first_fault new ts | None ↦ Some (t ∷ ts) ]

-- The class of the next token, and Stray where there is none.
abbrev pub class_at : List Token → TokenKind
class_at [] = Stray
class_at (t ∷ ts) = class_of t

-- The first fault leaves so many tokens.
abbrev pub FaultLeaves : List Symbol → List Token → ℕ → Type 0
FaultLeaves xs ts left = (rest : List Token) × (first_fault xs ts ≡ Some rest) × (left ≡ length rest)

-- Tokens were not read as these symbols for this cause.
abbrev pub FailsAt : List Symbol → List Token → Stop → Type 0
FailsAt xs ts OutOfMemory = Unit {0}
FailsAt xs ts (Syntax left) = FaultLeaves xs ts left

-- Tokens were not read as a constraint for this cause: they are none, and there its symbols fail.
abbrev pub ConstraintFails : (Token → Type 0) → List Token → Stop → Type 0
ConstraintFails IsFalse ts OutOfMemory = Unit {0}
ConstraintFails IsFalse ts (Syntax left) = ((tree : ConstraintTree) → ¬ IsConstraint IsFalse tree ts) × FaultLeaves constraint_start ts left

-- A part of these symbols was not read for this cause, whatever is to follow it.
abbrev pub Fails : List Symbol → List Token → Stop → Type 0
Fails part ts e = (follow : List Symbol) → FailsAt (part ++ follow) ts e

-- A part was read from the front.
abbrev pub Takes : (List Token → Type 0) → List Token → List Token → Type 0
Takes IsPart ts rest = (front : List Token) × (ts ≡ front ++ rest) × IsPart front

-- No later step of a path begins there.
abbrev pub EndsPath : List Token → Type 0
EndsPath ts = (class_at ts ≢ LeftBracket) × (class_at ts ≢ Dot)

-- No token parts two queries.
abbrev pub HasNoSemicolon : List Token → Type 0
HasNoSemicolon [] = Unit {0}
HasNoSemicolon (token ∷ tokens) = (class_of token ≢ Semicolon) × HasNoSemicolon tokens

-- The tokens end, or the next one parts two queries.
abbrev pub EndsQuery : List Token → Type 0
EndsQuery [] = Unit {0}
EndsQuery (token ∷ tokens) = class_of token ≡ Semicolon

-- The tokens up to the next one that parts two queries, and those from it on.
pub record IsCut (tokens part rest : List Token) : Type 0 where
  pub is : tokens ≡ part ++ rest
  pub none : HasNoSemicolon part
  pub ends : EndsQuery rest

-- The query stands up to the next token that parts two queries.
pub record TakesQuery (query : QueryTree) (tokens rest : List Token) : Type 0 where
  pub part : List Token
  pub cut : IsCut tokens part rest
  pub is_query : IsQuery query (limited part)

-- No query stands there: up to the next token that parts two queries it stops with so many tokens left, those from that one on included.
pub record StopsQuery (tokens : List Token) (left : ℕ) : Type 0 where
  pub part : List Token
  pub rest : List Token
  pub cut : IsCut tokens part rest
  pub stop : List Token
  pub stops : StopsAt IsQuery (limited part) stop
  pub leaves : left ≡ length stop + length rest

-- No query was read there for this cause.
abbrev pub QueryFails : List Token → Stop → Type 0
QueryFails tokens OutOfMemory = Unit {0}
QueryFails tokens (Syntax left) = StopsQuery tokens left

-- Tokens were not read as a union for this cause.
abbrev pub UnionFails : List Token → Stop → Type 0
UnionFails tokens OutOfMemory = Unit {0}
UnionFails tokens (Syntax left) = (rest : List Token) × StopsAt IsUnion (limited_union tokens) rest × (left ≡ length rest)
