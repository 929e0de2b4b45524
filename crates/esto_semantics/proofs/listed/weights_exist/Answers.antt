use Rattle.esto_semantics.proofs.WeightLemmas.{weight_exists, weight_is_one, weight_rises, weight_is_sum}
use Rattle.esto_semantics.proofs.listed.weights_exist.Goals as goal

pub returns : goal.returns
returns c = record { exist = weight_exists; one = weight_is_one; rise = weight_rises; sum = weight_is_sum }
