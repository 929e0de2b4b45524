use Rattle.std.proofs.Common.{take}
use Rattle.esto_fill.specs.Records.{AreNamedVariables}
use Rattle.esto_fill.proofs.record.named_variables.Given as goal

-- the variables are the named ones of the atoms so far
abbrev pub invariant-atoms : goal.invariant-atoms
invariant-atoms l = AreNamedVariables l.names (take l.atom-index l.atom-items) l.variables
