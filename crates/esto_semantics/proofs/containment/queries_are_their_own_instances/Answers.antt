use Rattle.std.proofs.Common.{[]}
use Rattle.esto_semantics.proofs.ContainmentLemmas.{universal_instances_decide, no_rules-AreRules, own_instance-IsUniversalFor, own_instance-IsFinished}
use Rattle.esto_semantics.proofs.containment.queries_are_their_own_instances.Goals as goal

pub returns-clause-universal : goal.returns-clause-universal
returns-clause-universal c = own_instance-IsUniversalFor []

pub returns-clause-contained : goal.returns-clause-contained
returns-clause-contained c left right =
    universal_instances_decide [] left left right no_rules-AreRules (own_instance-IsUniversalFor [] left) (own_instance-IsFinished left)
