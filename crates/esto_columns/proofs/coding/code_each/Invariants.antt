use Rattle.std.proofs.Common.{◌≡◌, ◌≤◌, ℕ, [], length, get_or, take}
use Rattle.esto_columns.specs.Interned.{Grows, AreCodedRows}
use Rattle.esto_columns.proofs.coding.code_each.Given as goal

abbrev pub invariant-rows : goal.invariant-rows
invariant-rows l = record {
  arity : l.coded.arity ≡ l.arity;
  coded : AreCodedRows l.codes l.coded.rows (take l.at l.initial.rows);
  left : (place : ℕ) → l.at ≤ place → get_or l.rows place [] ≡ get_or l.initial.rows place [];
  long : length l.rows ≡ length l.initial.rows;
  within : l.at ≤ length l.initial.rows;
  grown : Grows l.initial.codes l.codes;
}
