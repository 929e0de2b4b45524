use Rattle.std.proofs.Common.{◌≡◌, ◌⊎◌, ◌≤◌, ℕ, List, Bool, Some, length, slice_get, Contains}
use Rattle.esto_term.specs.Sets.{Has}
use Rattle.esto_chase_laws.specs.declared.entry.Entry.{Entry}
use Rattle.esto_derive.specs.Marking.{named_by, AreUsedWithin, IsNamedByUsed}
use Rattle.esto_derive.proofs.marking.close.Given as goal

abbrev pub invariant-entries : goal.invariant-entries
invariant-entries l = record {
  count : length l.used ≡ length l.fn.used;
  keeps : (place : ℕ) → Has l.fn.used place → Has l.used place;
  only : (place : ℕ) → Has l.used place → Has l.fn.used place ⊎ IsNamedByUsed l.entries l.used place;
  closed : (place : ℕ) (entry : Entry) → l.place ≤ place → slice_get l.entries place ≡ Some entry → Has l.used place
      → (named : ℕ) → Contains (named_by entry.reason) named → Has l.used named;
  within : (set : List Bool) → AreUsedWithin l.entries set l.fn.used → AreUsedWithin l.entries set l.used;
}
