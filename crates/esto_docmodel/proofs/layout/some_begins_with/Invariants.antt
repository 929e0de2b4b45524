use Rattle.std.proofs.Common.{length}
use Rattle.std.specs.Prelude.{◌↔◌}
use Rattle.esto_docmodel.specs.Layouts.{paths, SomeBegins}
use Rattle.esto_docmodel.specs.Shapes.{entries_of}
use Rattle.esto_docmodel.specs.declared.pattern.Step.TheVariants.{Name}
use Rattle.esto_docmodel.proofs.layout.some_begins_with.Given as goal

abbrev pub invariant-entries : goal.invariant-entries
invariant-entries l = SomeBegins (Name l.name) (paths (entries_of l.left)) ↔ SomeBegins (Name l.name) (paths (entries_of l.entries))

abbrev pub decreases-entries : goal.decreases-entries
decreases-entries l = length l.left
