use Rattle.std.proofs.Common.{length}
use Rattle.std.specs.Prelude.{◌↔◌}
use Rattle.esto_docmodel.specs.Layouts.{paths, AreFields}
use Rattle.esto_docmodel.specs.Shapes.{entries_of}
use Rattle.esto_docmodel.proofs.layout.are_fields.Given as goal

abbrev pub invariant-entries : goal.invariant-entries
invariant-entries l = AreFields (paths (entries_of l.left)) ↔ AreFields (paths (entries_of l.entries))

abbrev pub decreases-entries : goal.decreases-entries
decreases-entries l = length l.left
