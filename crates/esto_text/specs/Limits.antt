-- The limit of a head: at most `MAX_NAMES` names.
use Rattle.std.specs.Prelude.{ℕ, zero, suc, ◌-◌, Bool, true, false, if◌then◌else◌, List, [], ◌∷◌}
use Rattle.esto_text.specs.declared.rows.TheConstants.{MAX_NAMES}
use Rattle.esto_text.specs.declared.token.Token.{Token}
use Rattle.esto_text.specs.declared.token.TokenKind.{TokenKind}
use Rattle.esto_text.specs.declared.token.TokenKind.TheVariants.{Name, RightParen, Semicolon, Stray}
use Rattle.esto_text.specs.Grammar.{class_of}

-- The token closes a parenthesis.
abbrev pub is_close : TokenKind → Bool
is_close RightParen = true
is_close _ = false

-- The token is a name.
abbrev pub is_name : TokenKind → Bool
is_name Name = true
is_name _ = false

-- The token, where it fits nowhere.
abbrev pub unfit : Token → Token
unfit token = record { kind = Stray; start = token.start; end = token.end }

-- A name, where so many have room: with no room it fits nowhere.
abbrev pub in_room : ℕ → Token → Token
in_room zero token = unfit token
in_room (suc room) token = token

-- The tokens, where before the first `)` no name past the room fits. Outside a head, what this changes stands behind the first fault.
abbrev pub limited_row : ℕ → List Token → List Token
limited_row room [] = []
limited_row room (token ∷ tokens) =
    if is_close (class_of token) then token ∷ tokens
    else (if is_name (class_of token) then in_room room token ∷ limited_row (room - 1) tokens else token ∷ limited_row room tokens)

-- The tokens of a query or a view, where a name of the head past the greatest number fits nowhere.
abbrev pub limited : List Token → List Token
limited [] = []
limited (name ∷ tokens) = name ∷ limited_row MAX_NAMES tokens

-- The token parts two queries.
abbrev pub is_semicolon : TokenKind → Bool
is_semicolon Semicolon = true
is_semicolon _ = false

-- What was read of a query: nothing, a part of its head, in which so many names have room, or its head.
pub data Reached : Type 0 where
  Nothing : Reached
  Part : ℕ → Reached
  Head : Reached

-- What was read of a query when this token is read too, which parts no two queries.
abbrev pub reached_within : Reached → TokenKind → Reached
reached_within Nothing kind = Part MAX_NAMES
reached_within (Part room) kind = if is_close kind then Head else (if is_name kind then Part (room - 1) else Part room)
reached_within Head kind = Head

-- What was read of a query when this token is read too: nothing of the next one, where it parts two queries.
abbrev pub reached_then : Reached → TokenKind → Reached
reached_then reached kind = if is_semicolon kind then Nothing else reached_within reached kind

-- The token after what was read, where a name without room fits nowhere.
abbrev pub limited_token : Reached → Token → Token
limited_token (Part room) token = if is_close (class_of token) then token else (if is_name (class_of token) then in_room room token else token)
limited_token _ token = token

-- The tokens after what was read.
abbrev pub limited_after : Reached → List Token → List Token
limited_after reached [] = []
limited_after reached (token ∷ tokens) = limited_token reached token ∷ limited_after (reached_then reached (class_of token)) tokens

-- The tokens of a union, where in each query a name in the head past the thirty-second fits nowhere.
abbrev pub limited_union : List Token → List Token
limited_union tokens = limited_after Nothing tokens
