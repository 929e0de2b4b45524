use Rattle.std.proofs.Common.{◌≡◌, ◌≤◌, length, drop}
use Rattle.serde_json.specs.View.{view}
use Rattle.esto_docs.specs.Documents.{path_data}
use Rattle.esto_docs.proofs.document.wrap_all.Given as goal

abbrev pub invariant-steps : goal.invariant-steps
invariant-steps l = (l.left ≤ length l.steps) × (view l.value ≡ path_data (drop l.left l.steps) (view l.fn.value))

abbrev pub decreases-steps : goal.decreases-steps
decreases-steps l = l.left
