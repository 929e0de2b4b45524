use Rattle.esto_semantics.proofs.ContainmentLemmas.{unions_are_decided, universal_instances_decide}
use Rattle.esto_semantics.proofs.containment.universal_instances_decide_containment.Goals as goal

pub returns : goal.returns
returns c = record { union = unions_are_decided; query = universal_instances_decide }
