use Rattle.std.proofs.Common.{Contains}
use Rattle.esto_views.specs.Fragments.{patterns_of}
use Rattle.esto_views.specs.Plans.{fact_of, plan_query}
use Rattle.esto_access.proofs.AtomLemmas.{way_tells}
use Rattle.esto_access.proofs.atoms.is_accessible.Goals as goal

pub returns : goal.returns
returns c =
    rw c.is_some.ensures (way_tells (patterns_of c.args.fragments.now) (plan_query c.args.plan.now).body (Contains c.args.earlier.now) (fact_of c.args.atom.now)
    c.way_of.result c.way_of.ensures)
