use Rattle.std.proofs.Common.{arith, false, ap, ◌∙◌, length}
use Rattle.std.proofs.lemmas.List.{length-set, length-replicate}
use Rattle.std.proofs.lemmas.Result.{IfOk-weaker}
use Rattle.esto_bits.specs.Kept.{Kept}
use Rattle.esto_access.proofs.NeedLemmas.{with_number}
use Rattle.esto_access.proofs.needs.sets_with.Goals as goal

pub returns-clause-count : goal.returns-clause-count
returns-clause-count c = IfOk-weaker c.only.result _ _
    (λ _ value. ap (λ (it : Kept). it.count) value ∙ ap length c.insert.ensures.value ∙ length-set c.in_ok-row.row _ _ ∙ ap length c.in_ok-row.ensures
    ∙ length-replicate c.args.count false) c.only.ensures.value

pub returns-clause-covers : goal.returns-clause-covers
returns-clause-covers c = IfOk-weaker c.only.result _ _
    (λ it covers. with_number c.args.count c.args.number c.in_ok-row.row c.insert.new.self it.sets c.in_ok-row.ensures c.insert.ensures.has covers)
    c.only.ensures.covers

pub insert-requires : goal.insert-requires
insert-requires c = omega (arith, c.requires, ap length c.in_ok-row.ensures, length-replicate c.args.count false)
