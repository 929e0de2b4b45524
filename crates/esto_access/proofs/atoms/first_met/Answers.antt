use Rattle.std.proofs.Common.{Contains, sym, ◌∙◌, arith}
use Rattle.std.proofs.lemmas.Bool.{false≢true}
use Rattle.esto_semantics.specs.Access.{MeetsPattern}
use Rattle.esto_views.specs.Plans.{fact_of, plan_query}
use Rattle.esto_term.proofs.PlaceLemmas.{read_at}
use Rattle.esto_access.proofs.atoms.first_met.Goals as goal
use Rattle.esto_term.proofs.ListLemmas.{holds_all_in, holds_more_in, place-from_Contains}

pub patterns-init : goal.patterns-init
patterns-init c = λ place pattern below. absurd (omega (arith, below))

pub returns-then-meets_pattern : goal.returns-then-meets_pattern
returns-then-meets_pattern c = record {
  pattern = c.pattern-item.result;
  at = read_at c.args.patterns.now _ c.items-pattern-items.ensures c.patterns.place c.pattern-item.result c.patterns-test.true c.pattern-item.is;
  meets = c.meets_pattern.ensures.0 c.if-meets_pattern.true;
  first = c.patterns.invariant;
}

pub patterns-preserved : goal.patterns-preserved
patterns-preserved c =
    holds_more_in (λ _ pattern. MeetsPattern (plan_query c.args.plan.now).body (Contains c.args.earlier.now) (fact_of c.args.atom.now) pattern → ⊥)
    c.args.patterns.now _ c.items-pattern-items.ensures _ _ c.patterns-test.true c.pattern-item.is c.patterns.invariant
    (λ meets. false≢true (sym c.if-meets_pattern.false ∙ c.meets_pattern.ensures.1 meets))

pub returns : goal.returns
returns c = λ pattern inside.
    let at = place-from_Contains c.args.patterns.now pattern inside in
    holds_all_in (λ _ it. MeetsPattern (plan_query c.args.plan.now).body (Contains c.args.earlier.now) (fact_of c.args.atom.now) it → ⊥)
    c.args.patterns.now _ c.items-pattern-items.ensures _ c.patterns-test.false c.patterns.invariant at.0 pattern at.1
