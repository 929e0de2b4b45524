use Rattle.std.proofs.lemmas.Result.{IfOk-weaker}
use Rattle.esto_semantics.specs.Access.{MeetsPattern}
use Rattle.esto_term.specs.Sets.{Has}
use Rattle.esto_views.specs.Plans.{fact_of, plan_query}
use Rattle.esto_access.specs.Supplies.{IsSupplied}
use Rattle.esto_access.proofs.NeedLemmas.{covers_also}
use Rattle.esto_access.proofs.needs.add_meeting.Goals as goal

pub returns-clause-covers : goal.returns-clause-covers
returns-clause-covers c = IfOk-weaker c.add_all.result _ _
    (λ _ also. covers_also c.args.found.now.sets c.in_ok-met.met.sets c.add_all.new.self.sets
    (λ set. Has set c.args.number × MeetsPattern (plan_query c.args.plan.now).body (IsSupplied c.args.supplies.now set) (fact_of c.args.atom.now)
    c.args.pattern.now) c.in_ok-met.ensures.covers also) c.add_all.ensures.covers
