use Rattle.std.proofs.Common.{Some, true, false, slice_get, ◌<◌, ◌≡◌, length, refl, sym, ap, ◌∙◌, arith}
use Rattle.std.proofs.lemmas.Bool.{false≢true}
use Rattle.std.proofs.lemmas.Option.{same_Some, slice_get-get_or, slice_get_within}
use Rattle.esto_term.proofs.ListLemmas.{holds_all, holds_more}
use Rattle.esto_steps.specs.Planned.{IsKnown}
use Rattle.esto_plan.proofs.planning.can_meet.Goals.{else-column-len-via-then-column-len+then-item+else-not-is_known}
use Rattle.esto_plan.proofs.planning.can_meet.Goals.{else-column-len-via-then-column-len+else-item, else-column-len-via-else-column-len}
use Rattle.esto_plan.proofs.planning.can_meet.Goals as goal

pub columns-init : goal.columns-init
columns-init c = λ place term below. absurd (omega (arith, below))

pub returns-then-not-is_known : goal.returns-then-not-is_known
returns-then-not-is_known c = (
  λ holds. absurd (false≢true holds),
  λ can. absurd (false≢true (sym c.if-not-is_known.true ∙ c.is_known.ensures.1 (can c.columns.column c.index-terms-column.result c.if-item.ensures
      (slice_get-get_or c.args.terms.now c.columns.column c.index-terms-column.result c.columns-test.true ∙ ap Some (sym c.index-terms-column.is))))),
)

pub returns : goal.returns
returns c = (
  λ _ column term input at.
      holds_all (λ column term. slice_get c.args.access.now column ≡ Some true → IsKnown c.args.bound.now term) c.args.terms.now c.columns.column
      c.columns-test.false c.columns.invariant column term at input,
  λ _. refl,
)

pub columns-preserved : goal.columns-preserved
columns-preserved c =
    holds_more (λ column term. slice_get c.args.access.now column ≡ Some true → IsKnown c.args.bound.now term) c.args.terms.now c.columns.column
    c.index-terms-column.result c.columns-test.true c.index-terms-column.is c.columns.invariant
    (λ input. elim c.else-column-len.branch [
      | else-column-len-via-then-column-len+then-item+else-not-is_known w ↦ w.is_known.ensures.0 w.if-not-is_known.false
      | else-column-len-via-then-column-len+else-item w ↦ absurd (false≢true (same_Some false true (sym w.if-item.ensures ∙ input)))
      | else-column-len-via-else-column-len w ↦
          let inside : c.columns.column < length c.args.access.now = slice_get_within c.args.access.now c.columns.column true input in
          absurd (omega (arith, inside, w.if-column-len.false, c.len.ensures))
    ])
