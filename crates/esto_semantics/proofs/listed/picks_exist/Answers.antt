use Rattle.esto_semantics.proofs.PickLemmas.{pick_exists, pick_is_one, pick_weighs_least, pick_weighs_least_of_all}
use Rattle.esto_semantics.proofs.listed.picks_exist.Goals as goal

pub returns : goal.returns
returns c = record { exist = pick_exists; one = pick_is_one; least = pick_weighs_least; least_of_all = pick_weighs_least_of_all c.weights_exist.ensures.exist }
