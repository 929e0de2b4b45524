use Rattle.std.proofs.Common.{ℕ, ◌<◌}
use Rattle.esto_text.specs.declared.token.Token.{Token}
use Rattle.esto_read.specs.Heads.{IsRepeat}
use Rattle.esto_read.proofs.head.first_repeat.Given as goal

abbrev pub invariant-variables : goal.invariant-variables
invariant-variables l = (before : ℕ) (other : Token) → before < l.place → ¬ IsRepeat l.bytes l.variables before other
