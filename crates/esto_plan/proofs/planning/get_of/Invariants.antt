use Rattle.std.proofs.Common.{◌≡◌}
use Rattle.esto_plan.specs.Planning.{IsGetBelow}
use Rattle.esto_columns.specs.Interned.{Grows}
use Rattle.esto_plan.proofs.planning.get_of.Given as goal

abbrev pub invariant-columns : goal.invariant-columns
invariant-columns l = record {
  below : IsGetBelow l.codes l.access l.bound l.atom.terms l.column l.get;
  fragment : l.get.fragment ≡ l.atom.fragment;
  grown : Grows l.initial.codes l.codes;
}
