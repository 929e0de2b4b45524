use Rattle.std.proofs.Common.{◌≢◌, take}
use Rattle.std.specs.Prelude.{Contains}
use Rattle.esto_text.specs.Tokens.{text_of}
use Rattle.esto_text.specs.declared.token.Token.{Token}
use Rattle.esto_read.proofs.head.has_text.Given as goal

abbrev pub invariant-tokens : goal.invariant-tokens
invariant-tokens l = (token : Token) → Contains (take l.token-index l.tokens) token → text_of l.bytes token ≢ l.text
