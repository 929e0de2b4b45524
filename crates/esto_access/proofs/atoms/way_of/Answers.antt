use Rattle.std.proofs.Common.{Contains, sym, subst, arith}
use Rattle.esto_views.specs.Plans.{fact_of, plan_query}
use Rattle.esto_views.proofs.PatternLemmas.{patterns_at}
use Rattle.esto_access.specs.Ways.{IsWay}
use Rattle.esto_access.proofs.AtomLemmas.{no_patterns}
use Rattle.esto_access.proofs.atoms.way_of.Goals as goal
use Rattle.esto_term.proofs.ListLemmas.{Contains-nil}

pub returns-then-atom-len : goal.returns-then-atom-len
returns-then-atom-len c = λ pattern inside.
    absurd (Contains-nil pattern (subst (λ its. Contains its pattern)
    (no_patterns c.args.fragments.now c.args.atom.now.fragment (omega (arith, c.if-atom-len.true, c.len.ensures))) inside))

pub returns : goal.returns
returns c = subst (λ patterns. IsWay (plan_query c.args.plan.now).body (Contains c.args.earlier.now) (fact_of c.args.atom.now) patterns c.first_met.result)
    (sym (patterns_at c.args.fragments.now c.args.atom.now.fragment c.item.result.now c.item.ensures)) c.first_met.ensures
