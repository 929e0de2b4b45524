use Rattle.std.proofs.Common.{suc, drop}
use Rattle.esto_course.proofs.Steps.{Leads}
use Rattle.esto_course.specs.Course.{each}
use Rattle.esto_query.specs.Schemas.{arities_of}
use Rattle.esto_catalog.specs.Constraints.{adds_constraint, reads_constraints}
use Rattle.esto_catalog.specs.Soundness.{AreSoundRules}
use Rattle.esto_catalog.proofs.constraint.read_constraints.Given as goal

abbrev pub invariant-entries : goal.invariant-entries
invariant-entries l = record {
  leads : Leads (each (adds_constraint l.version l.scope.datasets) (suc l.index) l.rules (drop l.index l.entries))
      (reads_constraints l.version l.scope.datasets l.entries);
  sound : AreSoundRules (arities_of l.scope.schema) l.rules;
}
