use Rattle.std.proofs.Common.{Contains, refl, sym, ◌∙◌, arith}
use Rattle.std.proofs.lemmas.Bool.{false≢true}
use Rattle.esto_semantics.specs.Access.{IsInput, IsBound}
use Rattle.esto_views.specs.Plans.{plan_query}
use Rattle.esto_term.proofs.PlaceLemmas.{read_at}
use Rattle.esto_access.proofs.atoms.meets_pattern.Goals.{else-is_input-via-then-is_input+else-not-is_bound, else-is_input-via-else-is_input}
use Rattle.esto_access.proofs.atoms.meets_pattern.Goals as goal
use Rattle.esto_term.proofs.ListLemmas.{holds_all_in, holds_more_in}

pub columns-init : goal.columns-init
columns-init c = λ place term below. absurd (omega (arith, below))

pub returns-then-not-is_bound : goal.returns-then-not-is_bound
returns-then-not-is_bound c = (
  λ holds. absurd (false≢true holds),
  λ meets. absurd (false≢true (sym c.if-not-is_bound.true
      ∙ c.is_bound.ensures.1 (meets c.columns.column c.term-item.result (c.is_input.ensures.0 c.if-is_input.true)
      (read_at c.args.atom.now.terms _ c.items-term-items.ensures c.columns.column c.term-item.result c.columns-test.true c.term-item.is)))),
)

pub columns-preserved : goal.columns-preserved
columns-preserved c =
    holds_more_in (λ column term. IsInput c.args.pattern.now column → IsBound (plan_query c.args.plan.now).body (Contains c.args.earlier.now) term)
    c.args.atom.now.terms _ c.items-term-items.ensures _ _ c.columns-test.true c.term-item.is c.columns.invariant
    (λ input. elim c.else-is_input.branch [
      | else-is_input-via-then-is_input+else-not-is_bound w ↦ w.is_bound.ensures.0 w.if-not-is_bound.false
      | else-is_input-via-else-is_input w ↦ absurd (false≢true (sym w.if-is_input.false ∙ c.is_input.ensures.1 input))
    ])

pub returns : goal.returns
returns c = (
  λ _ column term input at.
      holds_all_in (λ column term. IsInput c.args.pattern.now column → IsBound (plan_query c.args.plan.now).body (Contains c.args.earlier.now) term)
      c.args.atom.now.terms _ c.items-term-items.ensures _ c.columns-test.false c.columns.invariant column term at input,
  λ _. refl,
)
