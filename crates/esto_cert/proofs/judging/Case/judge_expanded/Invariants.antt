use Rattle.std.proofs.Common.{Contains, take}
use Rattle.esto_semantics.specs.declared.expanded.ExpandedFact.{ExpandedFact}
use Rattle.esto_cert.specs.Certificates.{IsNamed}
use Rattle.esto_cert.proofs.judging.Case.judge_expanded.Given as goal

abbrev pub invariant-facts : goal.invariant-facts
invariant-facts l = (fact : ExpandedFact) → Contains (take l.fact-index l.fact-items) fact → ¬ (IsNamed l.self.set.now l.atom l.place fact)
