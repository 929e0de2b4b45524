use Rattle.std.proofs.Common.{map}
use Rattle.esto_views.specs.Plans.{fact_of}
use Rattle.esto_run.proofs.UsedLemmas.{used_distinct}
use Rattle.esto_run.proofs.used.fragments_of_set.Goals as goal

pub returns-clause-distinct : goal.returns-clause-distinct
returns-clause-distinct c = used_distinct (map fact_of c.args.plan.now.atoms) c.args.set.now c.add_uses.new.fragments
    (c.in_ok-add_uses.ensures.used c.new-fragments.ensures)
