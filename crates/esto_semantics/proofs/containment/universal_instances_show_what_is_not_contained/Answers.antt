use Rattle.esto_semantics.proofs.ShownLemmas.{instance_shows}
use Rattle.esto_semantics.proofs.containment.universal_instances_show_what_is_not_contained.Goals as goal

pub returns : goal.returns
returns c = instance_shows
