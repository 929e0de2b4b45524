use Rattle.esto_term.specs.Order.{term_cmp}
use Rattle.std.proofs.Common.{sym, ap, inl, inr, ◌∙◌}
use Rattle.std.proofs.lemmas.Result.{IfOk-weaker}
use Rattle.std.specs.Ordering.{ordering_reverse}
use Rattle.esto_term.proofs.CompareLemmas.{term_cmp-Equal}
use Rattle.esto_term.proofs.OrderLemmas.{term_cmp_total}
use Rattle.esto_chase.proofs.steps.ordered_sides.Goals as goal

pub returns-in-Less-clause-sides : goal.returns-in-Less-clause-sides
returns-in-Less-clause-sides c =
    IfOk-weaker c.copy_both.result _ _
    (λ it (one, other). inl (sym c.value_of-left.ensures ∙ sym one, sym c.value_of-right.ensures ∙ sym other)) c.copy_both.ensures

pub returns-in-Less-clause-lesser : goal.returns-in-Less-clause-lesser
returns-in-Less-clause-lesser c =
    IfOk-weaker c.copy_both.result _ _ (λ it (one, other). (λ i. term_cmp (one i) (other i)) ∙ sym c.in-Less.ensures) c.copy_both.ensures

pub unreachable-requires : goal.unreachable-requires
unreachable-requires c =
    c.requires (sym c.value_of-left.ensures
    ∙ (term_cmp-Equal c.value_of-left.result.now c.value_of-right.result.now).0 (sym c.in-Equal.ensures) ∙ c.value_of-right.ensures)

pub returns-in-Greater-clause-sides : goal.returns-in-Greater-clause-sides
returns-in-Greater-clause-sides c =
    IfOk-weaker c.copy_both-in-Greater.result _ _
    (λ it (one, other). inr (sym c.value_of-left.ensures ∙ sym other, sym c.value_of-right.ensures ∙ sym one)) c.copy_both-in-Greater.ensures

pub returns-in-Greater-clause-lesser : goal.returns-in-Greater-clause-lesser
returns-in-Greater-clause-lesser c =
    IfOk-weaker c.copy_both-in-Greater.result _ _
    (λ it (one, other). (λ i. term_cmp (one i) (other i))
    ∙ term_cmp_total.antisymm c.value_of-right.result.now c.value_of-left.result.now ∙ ap ordering_reverse (sym c.in-Greater.ensures))
    c.copy_both-in-Greater.ensures
