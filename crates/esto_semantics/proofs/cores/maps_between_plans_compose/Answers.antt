use Rattle.esto_semantics.proofs.MapsToLemmas.{MapsTo-then}
use Rattle.esto_semantics.proofs.cores.maps_between_plans_compose.Goals as goal

pub returns : goal.returns
returns c = λ first second third maps further. MapsTo-then first second third maps further
