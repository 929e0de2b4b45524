use Rattle.std.proofs.Common.{List, map, Contains, sym, ap, ◌∙◌, subst}
use Rattle.std.proofs.lemmas.Result.{IfOk-weaker}
use Rattle.esto_term.specs.declared.term.Term.{Term}
use Rattle.esto_term.specs.declared.term.Term.TheVariants.{Const}
use Rattle.esto_fill.proofs.apart.ordered_rows.Goals as goal

pub returns-clause-rows : goal.returns-clause-rows
returns-clause-rows c =
    let same = c.in_ok-terms.ensures ∙ ap (map (map Const)) c.items.ensures in
    IfOk-weaker c.in_order.result _ _ (λ it has row. (
      (λ inside. subst (λ (those : List (List Term)). Contains those row) same ((has row).0 inside)),
      (λ inside. (has row).1 (subst (λ (those : List (List Term)). Contains those row) (sym same) inside)),
    )) c.in_order.ensures.rows
