use Rattle.std.proofs.Common.{take}
use Rattle.esto_fill.specs.Placing.{AddsNamed}
use Rattle.esto_fill.proofs.record.put_variables.Given as goal

-- the named variables among the terms so far are there
abbrev pub invariant-terms : goal.invariant-terms
invariant-terms l = AddsNamed l.names (take l.term-index l.terms) l.fn.variables l.variables
