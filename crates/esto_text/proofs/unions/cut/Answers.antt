use Rattle.std.proofs.Common.{sym, ◌∙◌}
use Rattle.esto_text.specs.declared.token.TokenKind.TheVariants.{Name}
use Rattle.esto_text.proofs.UnionReading.{cut_more}
use Rattle.esto_text.proofs.unions.cut.Goals as goal

pub tokens-preserved : goal.tokens-preserved
tokens-preserved c =
    cut_more c.args.tokens.now c.tokens.index (record { kind = Name; start = 0; end = 0 }) c.tokens-test.true
    (sym c.is_semicolon.ensures ∙ c.if-is_semicolon.false) c.tokens.invariant
