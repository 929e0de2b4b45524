use Rattle.esto_semantics.proofs.CoreLemmas.{universal_cores-IsRenamedTo}
use Rattle.esto_semantics.proofs.cores.cores_are_one.Goals as goal

pub returns : goal.returns
returns c = universal_cores-IsRenamedTo
