use Rattle.std.proofs.Common.{take}
use Rattle.std.specs.List.{AllZip}
use Rattle.esto_columns.specs.Interned.{Grows}
use Rattle.esto_steps.specs.Planned.{IsSource}
use Rattle.esto_coded.proofs.steps.head_of.Given as goal

abbrev pub invariant-terms : goal.invariant-terms
invariant-terms l = record {
  head : AllZip (IsSource l.codes l.bound) (take l.term-index l.head) l.sources;
  grown : Grows l.initial.codes l.codes;
}
