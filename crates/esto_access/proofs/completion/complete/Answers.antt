use Rattle.std.proofs.Common.{subst, sym}
use Rattle.std.proofs.lemmas.Result.{IfOk-weaker}
use Rattle.esto_access.specs.Supplies.{CoversWhere}
use Rattle.esto_bits.specs.Kept.{AreOver, IsAntichain, Kept}
use Rattle.esto_access.specs.Completion.{IsOneCompletedIn}
use Rattle.esto_access.proofs.CompleteLemmas.{covered_completed}
use Rattle.esto_access.proofs.CompletionLemmas.{completed_is_minimal}
use Rattle.esto_access.proofs.completion.complete.Goals as goal

pub returns-then-complete-clause-covers : goal.returns-then-complete-clause-covers
returns-then-complete-clause-covers c = IfOk-weaker c.copy.result _ _
    (λ _ same. subst (λ (it : Kept). CoversWhere (IsOneCompletedIn c.args.supplies.now c.args.products.now.sets) it.sets) (sym same)
    (covered_completed c.args.supplies.now c.args.products.now.sets c.requires.own (c.in_ok-complete.ensures c.if-complete.true))) c.copy.ensures

pub returns-then-complete-clause-minimal : goal.returns-then-complete-clause-minimal
returns-then-complete-clause-minimal c = IfOk-weaker c.copy.result _ _
    (λ found same.
    let products = c.args.products.now in
    completed_is_minimal products.count c.args.supplies.now c.requires.supplies.over products.sets found.sets
    (subst (λ (it : Kept). AreOver products.count it.sets) (sym same) c.products_are_antichains.ensures.over)
    (subst (λ (it : Kept). IsAntichain it.sets) (sym same) c.products_are_antichains.ensures.antichain)
    (subst (λ (it : Kept). CoversWhere (IsOneCompletedIn c.args.supplies.now products.sets) it.sets) (sym same)
    (covered_completed c.args.supplies.now products.sets c.requires.own (c.in_ok-complete.ensures c.if-complete.true)))) c.copy.ensures
