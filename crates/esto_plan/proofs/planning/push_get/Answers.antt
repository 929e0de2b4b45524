use Rattle.std.proofs.Common.{◌++◌, ap, sym, subst, ◌∙◌}
use Rattle.std.proofs.lemmas.Result.{on_ok_weaker}
use Rattle.esto_views.specs.Plans.{fact_of}
use Rattle.esto_steps.specs.Planned.{CanMeet, IsGetOf}
use Rattle.esto_plan.proofs.planning.push_get.Goals as goal

pub get_of-requires-clause-met : goal.get_of-requires-clause-met
get_of-requires-clause-met c = (
  c.requires.met.0,
  c.requires.met.1,
  subst (λ them. CanMeet them c.args.atom.now.terms c.requires.met.0) (sym c.items.ensures) c.requires.met.2,
)

pub returns-clause-get : goal.returns-clause-get
returns-clause-get c = on_ok_weaker c.append.result
    (λ _. (
      c.in_ok-get.get,
      subst (λ them. IsGetOf c.get_of.new.codes c.args.patterns.now them (fact_of c.args.atom.now) c.in_ok-get.get) c.items.ensures
          c.in_ok-get.ensures.get,
      c.in_ok-push.ensures.ok,
    ))
    c.append.ensures.ok

pub returns-clause-bound : goal.returns-clause-bound
returns-clause-bound c = on_ok_weaker c.append.result
    (λ appended. appended ∙ ap (λ them. c.args.bound.now ++ them) c.in_ok-terms.ensures) c.append.ensures.ok
