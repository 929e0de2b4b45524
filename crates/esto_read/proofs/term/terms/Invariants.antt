use Rattle.std.proofs.Common.{take}
use Rattle.esto_read.specs.Terms.{AreTerms}
use Rattle.esto_read.proofs.term.terms.Given as goal

abbrev pub invariant-tokens : goal.invariant-tokens
invariant-tokens l = AreTerms l.bytes l.initial.names (take l.token-index l.tokens) l.terms l.names
