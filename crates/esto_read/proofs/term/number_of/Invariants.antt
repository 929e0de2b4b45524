use Rattle.std.proofs.Common.{◌≢◌, take}
use Rattle.std.specs.Prelude.{Contains}
use Rattle.esto_query.specs.declared.query.Name.{Name}
use Rattle.esto_query.specs.declared.query.Name.TheVariants.{Given}
use Rattle.esto_read.proofs.term.number_of.Given as goal

abbrev pub invariant-names : goal.invariant-names
invariant-names l = (name : Name) → Contains (take l.number l.names) name → name ≢ Given l.text
