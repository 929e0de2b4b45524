-- A text of an array of documents is read as them, also before a line feed.
use Rattle.std.proofs.Common.{◌≡◌, ◌<◌, ◌∙◌, ◌++◌, ◌∷◌, [], ℕ, zero, suc, List, Bool, true, false, Option, Some, get_or, refl, ap, sym, arith, append_assoc}
use Rattle.std.proofs.Common.{append-nil}
use Rattle.std.specs.Prelude.{IsUtf8, option_and_then}
use Rattle.std.proofs.lemmas.Str.{IsUtf8-append, IsUtf8-from_ascii}
use Rattle.json.specs.Token.{Token, begin_array, end_array, begin_object, end_object}
use Rattle.json.specs.Lex.{Lexeme, token, comma, colon, string_token, lex, between, tokens, punctuate, fresh}
use Rattle.json.specs.Json as grammar
use Rattle.json.specs.Print.{escape, quoted}
use Rattle.json.proofs.Printed.Strings.{content-escape, lex-escape}
use Rattle.serde_json.specs.Data.{Data, null, boolean, number, string, array, object, Items, no_items, item, Members, no_members, member}
use Rattle.serde_json.specs.Read.{read, of_json, max_depth}
use Rattle.serde_json.specs.Written.{compact_text, items_text, members_text, comma_if}
use Rattle.esto_docs.specs.Files.{json_of}
use Rattle.esto_docs.proofs.JsonLemmas.{json_some}
use Rattle.esto_docs.specs.Plain.{HasTextsOnly, ItemsHaveTextsOnly, MembersHaveTextsOnly}

-- A text that is lexed alike before whatever follows.
record Lexes (text : List ℕ) : Type 0 where
  lexemes : List Lexeme
  alike : (rest : List ℕ) → lex between (text ++ rest) ≡ lexemes ++ lex between rest

lexes_append : (a b : List ℕ) → Lexes a → Lexes b → Lexes (a ++ b)
lexes_append a b f g =
    record {
      lexemes = f.lexemes ++ g.lexemes;
      alike = λ rest. ap (lex between) (append_assoc a b rest) ∙ f.alike (b ++ rest) ∙ ap (λ (ls : List Lexeme). f.lexemes ++ ls) (g.alike rest)
          ∙ sym (append_assoc f.lexemes g.lexemes (lex between rest));
    }

lexes_quoted : (s : List ℕ) → Lexes (quoted s)
unfolding lex
lexes_quoted s =
    record {
      lexemes = token (string_token (Some s)) ∷ [];
      alike = λ rest.
          ap (λ (l : List ℕ). lex between (34 ∷ l)) (append_assoc (escape s) (34 ∷ []) rest)
          ∙ rw (content-escape s rest, lex-escape s rest) refl;
    }

lexes_nothing : Lexes []
lexes_nothing = record { lexemes = []; alike = λ rest. refl }

lexes_comma : Lexes (44 ∷ [])
unfolding lex
lexes_comma = record { lexemes = comma ∷ []; alike = λ rest. refl }

lexes_colon : Lexes (58 ∷ [])
unfolding lex
lexes_colon = record { lexemes = colon ∷ []; alike = λ rest. refl }

lexes_open_array : Lexes (91 ∷ [])
unfolding lex
lexes_open_array = record { lexemes = token begin_array ∷ []; alike = λ rest. refl }

lexes_close_array : Lexes (93 ∷ [])
unfolding lex
lexes_close_array = record { lexemes = token end_array ∷ []; alike = λ rest. refl }

lexes_open_object : Lexes (123 ∷ [])
unfolding lex
lexes_open_object = record { lexemes = token begin_object ∷ []; alike = λ rest. refl }

lexes_close_object : Lexes (125 ∷ [])
unfolding lex
lexes_close_object = record { lexemes = token end_object ∷ []; alike = λ rest. refl }

lexes_comma_if : (later : Bool) → Lexes (comma_if later)
lexes_comma_if true = lexes_comma
lexes_comma_if false = lexes_nothing

mutual
  text_lexes : (d : Data) → HasTextsOnly d → Lexes (compact_text d)
  text_lexes null h = absurd h
  text_lexes (boolean b) h = absurd h
  text_lexes (number n) h = absurd h
  text_lexes (string s) h = lexes_quoted s
  text_lexes (array ds) h = lexes_append (91 ∷ []) (items_text false ds) lexes_open_array (items_lex false ds h)
  text_lexes (object ms) h = lexes_append (123 ∷ []) (members_text false ms) lexes_open_object (members_lex false ms h)

  items_lex : (later : Bool) (ds : Items) → ItemsHaveTextsOnly ds → Lexes (items_text later ds)
  items_lex later no_items h = lexes_close_array
  items_lex later (item d ds) h =
      lexes_append (comma_if later) (compact_text d ++ items_text true ds) (lexes_comma_if later)
      (lexes_append (compact_text d) (items_text true ds) (text_lexes d h.0) (items_lex true ds h.1))

  members_lex : (later : Bool) (ms : Members) → MembersHaveTextsOnly ms → Lexes (members_text later ms)
  members_lex later no_members h = lexes_close_object
  members_lex later (member k d ms) h =
      lexes_append (comma_if later) (quoted k ++ 58 ∷ (compact_text d ++ members_text true ms)) (lexes_comma_if later)
      (lexes_append (quoted k) (58 ∷ (compact_text d ++ members_text true ms)) (lexes_quoted k)
      (lexes_append (58 ∷ []) (compact_text d ++ members_text true ms) lexes_colon
      (lexes_append (compact_text d) (members_text true ms) (text_lexes d h.0) (members_lex true ms h.1))))

-- A line feed after such a text changes nothing.
lexes_before_feed : (text : List ℕ) → Lexes text → lex between (text ++ 10 ∷ []) ≡ lex between text
unfolding lex
lexes_before_feed text l = l.alike (10 ∷ []) ∙ sym (ap (lex between) (sym (append-nil text)) ∙ l.alike [])

reads_tokens : List Token → Option Data
reads_tokens ts = option_and_then of_json (option_and_then (λ p. grammar.if_last p.0 p.1) (grammar.value max_depth ts))

read_by_tokens : (text : List ℕ) → read text ≡ reads_tokens (tokens text)
unfolding reads_tokens
read_by_tokens text = refl

pub read_before_feed : (d : Data) → HasTextsOnly d → read (compact_text d ++ 10 ∷ []) ≡ read (compact_text d)
read_before_feed d h =
    read_by_tokens (compact_text d ++ 10 ∷ [])
    ∙ ap (λ (ls : List Lexeme). reads_tokens (punctuate fresh ls)) (lexes_before_feed (compact_text d) (text_lexes d h))
    ∙ sym (read_by_tokens (compact_text d))

feed_is_text : IsUtf8 (10 ∷ [])
feed_is_text = IsUtf8-from_ascii (10 ∷ []) (λ i. feed_at i) where
  feed_at : (i : ℕ) → get_or (10 ∷ []) i 0 < 128
  feed_at zero = omega arith
  feed_at (suc i) = omega arith

-- The text of an array, with its line feed, is that array.
pub array_json : (d : Data) (line text : List ℕ) → HasTextsOnly d → line ≡ compact_text d → read line ≡ Some d → IsUtf8 line → text ≡ line ++ 10 ∷ []
    → json_of text ≡ Some d
array_json d line text h e r u t =
    json_some text d (rw t (IsUtf8-append line (10 ∷ []) u feed_is_text))
    (ap read (t ∙ ap (λ (l : List ℕ). l ++ 10 ∷ []) e) ∙ read_before_feed d h ∙ ap read (sym e) ∙ r)
