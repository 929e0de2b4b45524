use Rattle.std.proofs.Common.{map, Contains, refl, sym, subst, ◌∙◌}
use Rattle.std.proofs.lemmas.Bool.{false≢true}
use Rattle.esto_semantics.specs.Access.{IsBound}
use Rattle.esto_term.specs.Sets.{Has}
use Rattle.esto_views.specs.Plans.{fact_of}
use Rattle.esto_backchase.proofs.SafetyLemmas.{bound-fixed}
use Rattle.esto_backchase.proofs.safety.is_safe.Goals as goal
use Rattle.esto_term.proofs.ListLemmas.{Contains-read, holds_all, holds_more, place-from_Contains}

pub returns-then-not-is_fixed : goal.returns-then-not-is_fixed
returns-then-not-is_fixed c = (
  λ never. absurd (false≢true never),
  λ safe.
      let term = c.term-item.result in
      let inside = subst (λ terms. Contains terms term) c.items-term-items.ensures
      (Contains-read c.items-term-items.result.now c.head.term-index term c.head-test.true c.term-item.is) in
      let bound = (bound-fixed c.chosen_atoms_are_named.ensures c.args.set.now (map fact_of c.args.plan.now.atoms) term).1 (safe term inside) in
      absurd (false≢true (sym c.if-not-is_fixed.true
      ∙ c.is_fixed.ensures.1 (subst (λ atoms. IsBound (map fact_of atoms) (Has c.args.set.now) term) (sym c.items.ensures) bound))),
)

pub head-preserved : goal.head-preserved
head-preserved c =
    holds_more (λ _ term. IsBound (map fact_of c.args.plan.now.atoms) (Has c.args.set.now) term) c.items-term-items.result.now c.head.term-index
    c.term-item.result
    c.head-test.true c.term-item.is c.head.invariant
    (subst (λ atoms. IsBound (map fact_of atoms) (Has c.args.set.now) c.term-item.result) c.items.ensures (c.is_fixed.ensures.0 c.if-not-is_fixed.false))

pub returns : goal.returns
returns c = (
  λ _ term inside.
      let at = place-from_Contains c.items-term-items.result.now term (subst (λ terms. Contains terms term) (sym c.items-term-items.ensures) inside) in
      (bound-fixed c.chosen_atoms_are_named.ensures c.args.set.now (map fact_of c.args.plan.now.atoms) term).0
      (holds_all (λ _ other. IsBound (map fact_of c.args.plan.now.atoms) (Has c.args.set.now) other) c.items-term-items.result.now c.head.term-index
      c.head-test.false c.head.invariant at.0 term at.1),
  λ _. refl,
)
