use Rattle.std.proofs.Common.{◌≡◌, take}
use Rattle.esto_columns.specs.Interned.{Grows, AreCodedRows}
use Rattle.esto_columns.proofs.coding.code_rows.Given as goal

abbrev pub invariant-rows : goal.invariant-rows
invariant-rows l = record {
  arity : l.coded.arity ≡ l.arity;
  coded : AreCodedRows l.codes l.coded.rows (take l.row-index l.row-items);
  grown : Grows l.initial.codes l.codes;
}
