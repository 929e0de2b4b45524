use Rattle.std.proofs.Common.{take}
use Rattle.esto_text.specs.Machine.{HasNoSemicolon}
use Rattle.esto_text.proofs.unions.cut.Given as goal

abbrev pub invariant-tokens : goal.invariant-tokens
invariant-tokens l = HasNoSemicolon (take l.index l.tokens)
