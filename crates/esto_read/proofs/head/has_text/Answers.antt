use Rattle.std.proofs.Common.{◌≢◌, get_or, sym, ◌∙◌}
use Rattle.std.proofs.lemmas.Bool.{false≢true}
use Rattle.std.proofs.lemmas.List.{get_or_default}
use Rattle.esto_text.specs.Tokens.{text_of}
use Rattle.esto_text.specs.declared.token.Token.{Token}
use Rattle.esto_text.specs.declared.token.TokenKind.TheVariants.{Name}
use Rattle.esto_term.proofs.ListLemmas.{each_more, each_seen}
use Rattle.esto_read.proofs.head.has_text.Goals as goal

pub tokens-preserved : goal.tokens-preserved
tokens-preserved c =
    let unread : Token = record { kind = Name; start = 0; end = 0 } in
    let read : Token = get_or c.args.tokens.now c.tokens.token-index unread in
    each_more (λ (token : Token). text_of c.args.bytes.now token ≢ c.args.text.now) c.args.tokens.now c.tokens.token-index read c.tokens-test.true
    (get_or_default c.args.tokens.now c.tokens.token-index unread read c.tokens-test.true)
    (λ is. false≢true (sym c.if-same.false ∙ c.same.ensures.1 (c.bytes_of.ensures ∙ is))) c.tokens.invariant

pub returns : goal.returns
returns c = (
  λ e. absurd (false≢true e),
  λ (token, k, is). absurd (each_seen (λ (token : Token). text_of c.args.bytes.now token ≢ c.args.text.now) c.args.tokens.now c.tokens.token-index
      c.tokens-test.false c.tokens.invariant token k is),
)
