use Rattle.std.proofs.Common.{false, ap, sym, ◌∙◌, subst, length}
use Rattle.std.proofs.lemmas.List.{length-replicate}
use Rattle.std.proofs.lemmas.Result.{IfOk-weaker}
use Rattle.esto_term.specs.Sets.{Within}
use Rattle.esto_bits.specs.Kept.{Kept}
use Rattle.esto_access.proofs.NeedLemmas.{none_within}
use Rattle.esto_access.proofs.needs.every_set.Goals as goal

pub returns-clause-count : goal.returns-clause-count
returns-clause-count c = IfOk-weaker c.only.result _ _
    (λ _ value. ap (λ (it : Kept). it.count) value ∙ ap length c.in_ok-none.ensures ∙ length-replicate c.args.count false) c.only.ensures.value

pub returns-clause-covers : goal.returns-clause-covers
returns-clause-covers c = IfOk-weaker c.only.result _ _
    (λ _ covers set. (covers set).1 (subst (λ row. Within row set) (sym c.in_ok-none.ensures) (none_within c.args.count set))) c.only.ensures.covers
