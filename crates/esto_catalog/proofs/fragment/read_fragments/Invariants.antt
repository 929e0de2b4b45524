use Rattle.std.proofs.Common.{suc, drop}
use Rattle.esto_course.proofs.Steps.{Leads}
use Rattle.esto_course.specs.Course.{each}
use Rattle.esto_query.specs.Schemas.{arities_of}
use Rattle.esto_catalog.specs.Fragments.{adds_fragment, reads_fragments}
use Rattle.esto_catalog.specs.Soundness.{AreSoundFragments}
use Rattle.esto_catalog.proofs.fragment.read_fragments.Given as goal

abbrev pub invariant-entries : goal.invariant-entries
invariant-entries l = record {
  leads : Leads (each (adds_fragment l.scope.datasets) (suc l.index) l.fragments (drop l.index l.entries)) (reads_fragments l.scope.datasets l.entries);
  sound : AreSoundFragments (arities_of l.scope.schema) l.fragments;
}
