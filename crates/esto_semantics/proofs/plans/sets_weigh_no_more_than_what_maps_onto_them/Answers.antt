use Rattle.esto_semantics.proofs.WeightLemmas.{MapsOnto-weight}
use Rattle.esto_semantics.proofs.plans.sets_weigh_no_more_than_what_maps_onto_them.Goals as goal

pub returns : goal.returns
returns c = MapsOnto-weight
