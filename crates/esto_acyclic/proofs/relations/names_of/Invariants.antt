use Rattle.std.proofs.Common.{take}
use Rattle.esto_acyclic.specs.Relations.{AreNamesOf}
use Rattle.esto_acyclic.proofs.relations.names_of.Given as goal

abbrev pub invariant-relations : goal.invariant-relations
invariant-relations l = AreNamesOf l.schema (take l.relation-index l.relations) l.names
