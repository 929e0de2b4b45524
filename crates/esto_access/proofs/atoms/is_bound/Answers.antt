use Rattle.std.proofs.Common.{◌≡◌, Some, slice_get, get_or, Contains, refl, sym, ◌∙◌, inl, inr, below_more}
use Rattle.std.proofs.lemmas.Bool.{false≢true}
use Rattle.std.proofs.lemmas.List.Elements.{Contains-get_or}
use Rattle.esto_term.specs.declared.term.Term.{Term}
use Rattle.esto_semantics.specs.declared.fact.Fact.{Fact}
use Rattle.esto_views.specs.Plans.{plan_query}
use Rattle.esto_access.proofs.AtomLemmas.{holds_of_none}
use Rattle.esto_access.proofs.atoms.is_bound.Goals as goal

pub returns-then-occurs_at : goal.returns-then-occurs_at
returns-then-occurs_at c = (
  λ _. inr (
    get_or c.args.earlier.now c.numbers.number-index 0,
    Contains-get_or c.args.earlier.now c.numbers.number-index 0 c.numbers-test.true,
    c.occurs_at.ensures.0 c.if-occurs_at.true,
  ),
  λ _. refl,
)

pub numbers-preserved : goal.numbers-preserved
numbers-preserved c = below_more _ _ c.numbers.invariant (λ found. false≢true (sym c.if-occurs_at.false ∙ c.occurs_at.ensures.1 found))

pub returns : goal.returns
returns c = (
  λ e. absurd (false≢true e),
  λ bound. elim bound [
    | inl constant ↦ absurd (false≢true (sym c.if-is_constant.false ∙ c.is_constant.ensures.1 constant))
    | inr named ↦ absurd (holds_of_none
        (λ number. (atom : Fact Term) × (slice_get (plan_query c.args.plan.now).body number ≡ Some atom) × Contains atom.terms c.args.term.now)
        c.args.earlier.now c.numbers.number-index c.numbers-test.false c.numbers.invariant named.0 named.1 named.2)
  ],
)
