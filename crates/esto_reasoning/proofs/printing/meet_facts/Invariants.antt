use Rattle.std.proofs.Common.{◌≡◌, drop}
use Rattle.esto_reasoning.specs.Texts.{met_facts}
use Rattle.esto_reasoning.proofs.printing.meet_facts.Given as goal

abbrev pub invariant-facts : goal.invariant-facts
invariant-facts l = met_facts l.names l.met (drop l.fact-index l.facts) ≡ met_facts l.names l.initial.met l.facts
