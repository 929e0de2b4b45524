use Rattle.esto_catalog.proofs.AccessLemmas.{usual_more}
use Rattle.esto_catalog.proofs.access.usual_pattern.Goals as goal

pub columns-preserved : goal.columns-preserved
columns-preserved c = rw c.in_ok-push.ensures.ok (usual_more c.args.model c.columns.column c.columns.pattern _ c.columns.invariant c.is_usual_input.ensures)
