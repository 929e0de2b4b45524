-- The grammar, rule by rule, between syntax trees and lists of tokens.
use Rattle.std.specs.Prelude.{◌≡◌, ◌⊎◌, ℕ, suc, ◌-◌, ◌<◌, Bool, true, false, nat_lt, if◌then◌else◌, List, [], ◌∷◌, ◌++◌, Option, Some, None}
use Rattle.esto_text.specs.declared.groups.TheConstants.{MAX_OPEN}
use Rattle.esto_text.specs.declared.parts.TheConstants.{MAX_NAME}
use Rattle.esto_text.specs.declared.token.Token.{Token}
use Rattle.esto_text.specs.declared.token.TokenKind.{TokenKind}
use Rattle.esto_text.specs.declared.token.TokenKind.TheVariants.{Name, Wildcard, Quoted, Number, LeftParen, RightParen, LeftBrace, RightBrace, LeftBracket}
use Rattle.esto_text.specs.declared.token.TokenKind.TheVariants.{RightBracket, Comma, Dot, Colon, Turnstile, Arrow, Equals, Stars, Semicolon, Stray}
use Rattle.esto_text.specs.declared.tree.StepSyntax.{StepSyntax}
use Rattle.esto_text.specs.declared.tree.StepSyntax.TheVariants.{Field, Item, Below}
use Rattle.esto_text.specs.declared.unions.TheConstants.{MAX_QUERIES}
use Rattle.esto_text.specs.Trees.{EntryTree, Value, Nested, EntryTrees, NoEntry, AndEntry, ItemTree, Atom, Part, Pattern, QueryTree, HeadTree, Items, Equality}
use Rattle.esto_text.specs.Trees.{Never, ConstraintTree}

-- What a token of so many bytes is to the grammar: a name of more than `MAX_NAME` bytes fits nowhere.
abbrev pub fitting : TokenKind → ℕ → TokenKind
fitting Name bytes = if nat_lt MAX_NAME bytes then Stray else Name
fitting kind bytes = kind

-- What the token is to the grammar.
abbrev pub class_of : Token → TokenKind
class_of token = fitting token.kind (token.end - token.start)

-- The token is a name.
abbrev pub IsName : Token → Type 0
IsName token = class_of token ≡ Name

-- Names, wildcards and constants are terms.
abbrev pub is_term : TokenKind → Bool
is_term Name = true
is_term Wildcard = true
is_term Quoted = true
is_term Number = true
is_term _ = false

-- term = name | wildcard | constant
abbrev pub IsTerm : Token → Type 0
IsTerm token = is_term (class_of token) ≡ true

-- { "," x } ")", where each x is one token
abbrev pub IsRowEnd : (Token → Type 0) → List Token → List Token → Type 0
IsRowEnd P [] tokens = (close : Token) × (tokens ≡ close ∷ []) × (class_of close ≡ RightParen)
IsRowEnd P (x ∷ xs) tokens =
    (comma : Token) × (more : List Token) × (tokens ≡ comma ∷ x ∷ more) × (class_of comma ≡ Comma) × P x × IsRowEnd P xs more

-- x { "," x } ")", where each x is one token
abbrev pub IsRow : (Token → Type 0) → List Token → List Token → Type 0
IsRow P [] tokens = ⊥
IsRow P (x ∷ xs) tokens = (more : List Token) × (tokens ≡ x ∷ more) × P x × IsRowEnd P xs more

-- What a name, a quoted constant and `**` say as a step.
abbrev pub step_at : TokenKind → Token → Option StepSyntax
step_at Name token = Some (Field token)
step_at Quoted token = Some (Field token)
step_at Stars token = Some Below
step_at _ token = None

-- next = name | quoted constant | "**"
abbrev pub IsNext : StepSyntax → Token → Type 0
IsNext step token = step_at (class_of token) token ≡ Some step

-- "[" "]"
abbrev pub IsBrackets : StepSyntax → List Token → Type 0
IsBrackets step tokens =
    (step ≡ Item) × (left right : Token) × (tokens ≡ left ∷ right ∷ []) × (class_of left ≡ LeftBracket) × (class_of right ≡ RightBracket)

-- first = next | "[" "]"
abbrev pub IsFirst : StepSyntax → List Token → Type 0
IsFirst step tokens = ((next : Token) × (tokens ≡ next ∷ []) × IsNext step next) ⊎ IsBrackets step tokens

-- "[" "]" | "." next
abbrev pub IsLater : StepSyntax → List Token → Type 0
IsLater step tokens =
    ((dot next : Token) × (tokens ≡ dot ∷ next ∷ []) × (class_of dot ≡ Dot) × IsNext step next) ⊎ IsBrackets step tokens

-- { "[" "]" | "." next }
abbrev pub IsPathEnd : List StepSyntax → List Token → Type 0
IsPathEnd [] tokens = tokens ≡ []
IsPathEnd (s ∷ path) tokens = (a b : List Token) × (tokens ≡ a ++ b) × IsLater s a × IsPathEnd path b

-- path = first { "[" "]" | "." next }
abbrev pub IsPath : List StepSyntax → List Token → Type 0
IsPath [] tokens = ⊥
IsPath (s ∷ path) tokens = (a b : List Token) × (tokens ≡ a ++ b) × IsFirst s a × IsPathEnd path b

abbrev mutual
  -- entry = path ( ":" term | "{" entry { "," entry } "}" ), where so many braces are open; at most `MAX_OPEN` may be
  pub IsEntry : ℕ → EntryTree → List Token → Type 0
  IsEntry depth (Value path term) tokens =
      (front : List Token) × (colon : Token) × (tokens ≡ front ++ colon ∷ term ∷ []) × IsPath path front × (class_of colon ≡ Colon) × IsTerm term
  IsEntry depth (Nested path NoEntry) tokens = ⊥
  IsEntry depth (Nested path (AndEntry first others)) tokens =
      (front : List Token) × (brace : Token) × (a b : List Token) × (tokens ≡ front ++ brace ∷ (a ++ b)) × IsPath path front × (class_of brace ≡ LeftBrace)
      × (depth < MAX_OPEN)
      × IsEntry (suc depth) first a × IsGroupEnd (suc depth) others b

  -- { "," entry } "}"
  pub IsGroupEnd : ℕ → EntryTrees → List Token → Type 0
  IsGroupEnd depth NoEntry tokens = (close : Token) × (tokens ≡ close ∷ []) × (class_of close ≡ RightBrace)
  IsGroupEnd depth (AndEntry first others) tokens =
      (comma : Token) × (a b : List Token) × (tokens ≡ comma ∷ (a ++ b)) × (class_of comma ≡ Comma) × IsEntry depth first a × IsGroupEnd depth others b

-- entry { "," entry } "}", the rest of a group behind its brace, which is counted
abbrev pub IsGroup : ℕ → EntryTrees → List Token → Type 0
IsGroup depth NoEntry tokens = ⊥
IsGroup depth (AndEntry first others) tokens = (a b : List Token) × (tokens ≡ a ++ b) × IsEntry depth first a × IsGroupEnd depth others b

-- layout = group = "{" entry { "," entry } "}"
abbrev pub IsLayout : EntryTrees → List Token → Type 0
IsLayout entries tokens = (brace : Token) × (more : List Token) × (tokens ≡ brace ∷ more) × (class_of brace ≡ LeftBrace) × IsGroup 1 entries more

-- item = name "(" terms ")" | name "." name "(" terms ")" | name group
abbrev pub IsItem : ItemTree → List Token → Type 0
IsItem (Atom name terms) tokens =
    (paren : Token) × (more : List Token) × (tokens ≡ name ∷ paren ∷ more) × IsName name × (class_of paren ≡ LeftParen) × IsRow IsTerm terms more
IsItem (Part name part terms) tokens =
    (dot paren : Token) × (more : List Token) × (tokens ≡ name ∷ dot ∷ part ∷ paren ∷ more) × IsName name × (class_of dot ≡ Dot) × IsName part
    × (class_of paren ≡ LeftParen) × IsRow IsTerm terms more
IsItem (Pattern name entries) tokens =
    (brace : Token) × (more : List Token) × (tokens ≡ name ∷ brace ∷ more) × IsName name × (class_of brace ≡ LeftBrace) × IsGroup 1 entries more

-- { "," item }
abbrev pub IsBodyEnd : List ItemTree → List Token → Type 0
IsBodyEnd [] tokens = tokens ≡ []
IsBodyEnd (item ∷ items) tokens =
    (comma : Token) × (a b : List Token) × (tokens ≡ comma ∷ (a ++ b)) × (class_of comma ≡ Comma) × IsItem item a × IsBodyEnd items b

-- items = item { "," item }
abbrev pub IsBody : List ItemTree → List Token → Type 0
IsBody [] tokens = ⊥
IsBody (item ∷ items) tokens = (a b : List Token) × (tokens ≡ a ++ b) × IsItem item a × IsBodyEnd items b

-- query = head ":-" items, and view likewise, where head = name "(" name { "," name } ")"
abbrev pub IsQuery : QueryTree → List Token → Type 0
IsQuery query tokens =
    (paren : Token) × (head : List Token) × (turnstile : Token) × (body : List Token) × (tokens ≡ query.name ∷ paren ∷ (head ++ turnstile ∷ body))
    × IsName query.name × (class_of paren ≡ LeftParen) × IsRow IsName query.variables head × (class_of turnstile ≡ Turnstile) × IsBody query.items body

-- { ";" query }, where so many queries stand before; at most 16 may stand in all
abbrev pub IsUnionEnd : ℕ → List QueryTree → List Token → Type 0
IsUnionEnd count [] tokens = tokens ≡ []
IsUnionEnd count (query ∷ queries) tokens =
    (semicolon : Token) × (a b : List Token) × (tokens ≡ semicolon ∷ (a ++ b)) × (class_of semicolon ≡ Semicolon) × (count < MAX_QUERIES) × IsQuery query a
    × IsUnionEnd (suc count) queries b

-- query { ";" query }, where so many queries stand before
abbrev pub IsUnionFrom : ℕ → List QueryTree → List Token → Type 0
IsUnionFrom count [] tokens = ⊥
IsUnionFrom count (query ∷ queries) tokens = (a b : List Token) × (tokens ≡ a ++ b) × IsQuery query a × IsUnionEnd (suc count) queries b

-- union = query { ";" query }
abbrev pub IsUnion : List QueryTree → List Token → Type 0
IsUnion queries tokens = IsUnionFrom 0 queries tokens

-- items "->"
abbrev pub IsRuleBody : List ItemTree → List Token → Type 0
IsRuleBody items tokens = (front : List Token) × (arrow : Token) × (tokens ≡ front ++ arrow ∷ []) × IsBody items front × (class_of arrow ≡ Arrow)

-- No token is the word `false`.
abbrev pub NoFalse : Token → Type 0
NoFalse token = ⊥

-- items | name "=" term | "false", where "false" is a name that is the word `false`
abbrev pub IsHead : (Token → Type 0) → HeadTree → List Token → Type 0
IsHead IsFalse (Items items) tokens = IsBody items tokens
IsHead IsFalse (Equality left right) tokens =
    (sign : Token) × (tokens ≡ left ∷ sign ∷ right ∷ []) × IsName left × (class_of sign ≡ Equals) × IsTerm right
IsHead IsFalse Never tokens = (word : Token) × (tokens ≡ word ∷ []) × IsName word × IsFalse word

-- constraint = items "->" ( items | name "=" term | "false" )
abbrev pub IsConstraint : (Token → Type 0) → ConstraintTree → List Token → Type 0
IsConstraint IsFalse constraint tokens =
    (body head : List Token) × (tokens ≡ body ++ head) × IsRuleBody constraint.body body × IsHead IsFalse constraint.head head
