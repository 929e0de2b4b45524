use Rattle.std.proofs.Common.{◌≡◌, inl, inr, sym, subst, ◌∙◌, arith}
use Rattle.std.proofs.lemmas.Bool.{false≢true, cases_lt}
use Rattle.std.proofs.lemmas.List.{length-map}
use Rattle.esto_views.specs.Fragments.{patterns_of}
use Rattle.esto_views.specs.Plans.{fact_of, plan_query}
use Rattle.esto_access.specs.Runs.{CanFollow}
use Rattle.esto_access.proofs.run.next_number.Goals as goal

pub numbers-init : goal.numbers-init
numbers-init c = λ lesser below. absurd (omega (arith, below))

pub numbers-preserved : goal.numbers-preserved
numbers-preserved c = λ lesser below follows. elim (cases_lt lesser c.numbers.number) [
  | inl less ↦ c.numbers.invariant lesser less follows
  | inr no_less ↦
      let last : lesser ≡ c.numbers.number = omega (arith, below, no_less) in
      false≢true (sym c.if-can_follow.false ∙ c.can_follow.ensures.1
      (subst (CanFollow (patterns_of c.args.fragments.now) (plan_query c.args.plan.now).body c.args.set.now c.args.earlier.now) last follows))
]

pub returns-then-can_follow : goal.returns-then-can_follow
returns-then-can_follow c = record { follows = c.can_follow.ensures.0 c.if-can_follow.true; least = c.numbers.invariant }

pub returns : goal.returns
returns c = λ number follows.
    c.numbers.invariant number (omega (arith, follows.there, c.numbers-test.false, c.len-number-end.ensures, length-map c.args.plan.now.atoms fact_of)) follows
