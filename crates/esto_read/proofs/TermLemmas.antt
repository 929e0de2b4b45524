-- Terms, from left to right, and the names that they leave.
use Rattle.std.proofs.Common.{◌≡◌, ◌≢◌, ℕ, ◌+◌, ◌<◌, true, List, [], ◌∷◌, ◌++◌, length, take, get_or, refl, sym, subst}
use Rattle.std.proofs.lemmas.List.{take_more}
use Rattle.esto_query.specs.declared.query.Name.{Name}
use Rattle.esto_term.specs.declared.term.Term.{Term}
use Rattle.esto_text.specs.Grammar.{is_term}
use Rattle.esto_text.specs.Tokens.{text_of}
use Rattle.esto_text.specs.declared.token.Token.{Token}
use Rattle.esto_text.specs.declared.token.TokenKind.{TokenKind}
use Rattle.esto_text.specs.declared.token.TokenKind.TheVariants as kind
use Rattle.esto_read.specs.Terms.{IsTermOf, AreTerms}

pub only_number : (k : TokenKind) → is_term k ≡ true → k ≢ kind.Name → k ≢ kind.Wildcard → k ≢ kind.Quoted → k ≡ kind.Number
only_number kind.Name h n w q = absurd (n refl)
only_number kind.Wildcard h n w q = absurd (w refl)
only_number kind.Quoted h n w q = absurd (q refl)
only_number kind.Number h n w q = refl
only_number _ h n w q = absurd cc

module _ (bytes : List ℕ) where
  terms_then : (before between after : List Name) (tokens : List Token) (terms : List Term) (token : Token) (term : Term)
      → AreTerms bytes before tokens terms between
      → IsTermOf token.kind (text_of bytes token) between term after → AreTerms bytes before (tokens ++ token ∷ []) (terms ++ term ∷ []) after
  terms_then before between after [] [] token term h g = (after, subst (λ (l : List Name). IsTermOf token.kind (text_of bytes token) l term after) h g, refl)
  terms_then before between after [] (x ∷ xs) token term h g = absurd h
  terms_then before between after (t ∷ ts) [] token term h g = absurd h
  terms_then before between after (t ∷ ts) (x ∷ xs) token term (names, h, more) g = (names, h, terms_then names between after ts xs token term more g)

  pub terms_more : (before between after : List Name) (tokens : List Token) (n : ℕ) (terms : List Term) (d : Token) (term : Term) → n < length tokens
      → AreTerms bytes before (take n tokens) terms between → IsTermOf (get_or tokens n d).kind (text_of bytes (get_or tokens n d)) between term after
      → AreTerms bytes before (take (n + 1) tokens) (terms ++ term ∷ []) after
  terms_more before between after tokens n terms d term lt h g =
      subst (λ (l : List Token). AreTerms bytes before l (terms ++ term ∷ []) after) (sym (take_more tokens n d lt))
      (terms_then before between after (take n tokens) terms (get_or tokens n d) term h g)
