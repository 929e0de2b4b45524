use Rattle.std.proofs.Common.{◌≡◌, ◌≢◌, List, [], ◌∷◌, get_or, drop, refl, sym, ◌∙◌}
use Rattle.esto_text.specs.declared.token.Token.{Token}
use Rattle.esto_text.specs.declared.token.TokenKind.{TokenKind}
use Rattle.esto_text.specs.declared.token.TokenKind.TheVariants.{Stray}
use Rattle.esto_text.specs.contracts.token.TokenKind.{the_type}
use denote.Enum.Bare.{same_true, same_false}
use Rattle.esto_text.specs.Grammar.{class_of}
use Rattle.esto_text.specs.Machine.{class_at}
use Rattle.esto_text.proofs.PathLemmas.{some_next}
use Rattle.esto_text.proofs.parts.sign.Goals as goal

-- where the next token is of a kind, there is one
taken : (tokens : List Token) (kind : TokenKind) (nothing : Token) → kind ≢ Stray → class_at tokens ≡ kind
    → (tokens ≡ get_or tokens 0 nothing ∷ drop 1 tokens) × (class_of (get_or tokens 0 nothing) ≡ kind)
taken [] kind nothing some is = absurd (some (sym is))
taken (token ∷ tokens) kind nothing some is = (refl, is)

pub returns-then-eq : goal.returns-then-eq
returns-then-eq c =
    let same = same_true the_type tt _ _ (sym c.eq.ensures ∙ c.if-eq.true) in
    record { ok = rw c.split_at.ensures.back (taken c.args.tokens.now c.args.kind _ c.requires (sym c.class_at.ensures ∙ same)); err = tt }

pub returns-else-eq : goal.returns-else-eq
returns-else-eq c =
    record { ok = tt; err = (refl, λ is. same_false the_type _ _ (sym c.eq.ensures ∙ c.if-eq.false) (c.class_at.ensures ∙ is)) }

pub split_at-requires : goal.split_at-requires
split_at-requires c =
    let same = same_true the_type tt _ _ (sym c.eq.ensures ∙ c.if-eq.true) in
    some_next c.args.tokens.now c.args.kind (sym c.class_at.ensures ∙ same) (λ e. c.requires (sym e))
