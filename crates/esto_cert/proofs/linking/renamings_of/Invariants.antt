use Rattle.std.proofs.Common.{List, take}
use Rattle.esto_term.specs.declared.term.Term.{Term}
use Rattle.esto_semantics.specs.declared.fact.Fact.{Fact}
use Rattle.esto_cert.specs.Linking.{IsAmong, Tells}
use Rattle.esto_cert.proofs.linking.renamings_of.Given as goal

abbrev pub invariant-equalities : goal.invariant-equalities
invariant-equalities l = (facts : List (Fact Term)) → Tells l.renamings (IsAmong facts (take l.equality-index l.equalities))
