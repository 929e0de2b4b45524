use Rattle.std.proofs.Common.{◌≡◌, List, Bool, length, map, take}
use Rattle.std.specs.Prelude.{Contains}
use Rattle.esto_catalog.specs.Access.{written_pattern}
use Rattle.esto_catalog.proofs.access.patterns_of.Given as goal

abbrev pub invariant-texts : goal.invariant-texts
invariant-texts l = record {
  written : take l.text-index l.texts ≡ map written_pattern l.patterns;
  wide : (pattern : List Bool) → Contains l.patterns pattern → length pattern ≡ l.columns;
}
