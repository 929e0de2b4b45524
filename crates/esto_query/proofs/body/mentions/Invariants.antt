use Rattle.std.proofs.Common.{take, Contains}
use Rattle.esto_semantics.specs.declared.fact.Fact.{Fact}
use Rattle.esto_term.specs.declared.term.Term.{Term}
use Rattle.esto_query.proofs.body.mentions.Given as goal

abbrev pub invariant-atoms : goal.invariant-atoms
invariant-atoms l = (atom : Fact Term) → Contains (take l.atom-index l.atoms) atom → ¬ Contains atom.terms l.term
