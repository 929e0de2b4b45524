use Rattle.esto_semantics.proofs.MapsToLemmas.{universal_alike}
use Rattle.esto_semantics.proofs.cores.plans_that_map_to_each_other_are_universal_alike.Goals as goal

pub returns : goal.returns
returns c = universal_alike
