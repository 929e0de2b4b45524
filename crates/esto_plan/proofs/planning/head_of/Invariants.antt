use Rattle.std.proofs.Common.{take}
use Rattle.std.specs.List.{AllZip}
use Rattle.esto_steps.specs.Planned.{IsSource}
use Rattle.esto_columns.specs.Interned.{Grows}
use Rattle.esto_plan.proofs.planning.head_of.Given as goal

abbrev pub invariant-terms : goal.invariant-terms
invariant-terms l = (AllZip (IsSource l.codes l.bound) (take l.term-index l.term-items) l.sources) × Grows l.initial.codes l.codes
