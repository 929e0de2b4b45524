use Rattle.esto_data.proofs.PartLemmas.{first_by_part}
use Rattle.esto_data.proofs.coded_rule.rule_difference.Goals as goal

pub returns-in-Ok : goal.returns-in-Ok
returns-in-Ok c = rw c.in-Some.is (first_by_part c.args.catalogue.now c.args.number c.in-Some.part c.in-Ok.found (rw c.in-Ok.is at c.difference_in.ensures))
