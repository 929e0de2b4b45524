use Rattle.std.proofs.Common.{[]}
use Rattle.esto_semantics.proofs.ContainmentLemmas.{universal_instances_satisfy, no_rules-AreRules, own_instance-IsUniversalFor, own_instance-IsFinished}
use Rattle.esto_semantics.proofs.containment.universal_instances_satisfy_queries.Goals as goal

pub returns-clause-under_rules : goal.returns-clause-under_rules
returns-clause-under_rules c = universal_instances_satisfy

pub returns-clause-without_rules : goal.returns-clause-without_rules
returns-clause-without_rules c query =
    universal_instances_satisfy [] query query no_rules-AreRules (own_instance-IsUniversalFor [] query) (own_instance-IsFinished query)
