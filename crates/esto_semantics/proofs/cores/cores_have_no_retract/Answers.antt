use Rattle.esto_semantics.proofs.CoreLemmas.{core-HasNoRetract, core-from_none, core-distinct}
use Rattle.esto_semantics.proofs.cores.cores_have_no_retract.Goals as goal

pub returns-clause-same : goal.returns-clause-same
returns-clause-same c plan = (core-HasNoRetract plan, core-from_none plan)

pub returns-clause-distinct : goal.returns-clause-distinct
returns-clause-distinct c = core-distinct
