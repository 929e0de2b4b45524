use Rattle.std.proofs.Common.{take, Contains}
use Rattle.esto_term.specs.declared.term.Term.{Term}
use Rattle.esto_known.specs.Live.{IsUnlinked}
use Rattle.esto_known.proofs.fresh.has_linked.Given as goal

-- none so far has one
abbrev pub invariant-terms : goal.invariant-terms
invariant-terms l = (own : Term) → Contains (take l.own-index l.terms) own → IsUnlinked l.known l.since own
