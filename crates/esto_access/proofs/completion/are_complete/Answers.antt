use Rattle.std.proofs.Common.{arith, subst, sym}
use Rattle.esto_term.proofs.ListLemmas.{each_all, each_step, place-from_Contains}
use Rattle.esto_access.specs.Completion.{AreSuppliesOf, IsCompletedIn}
use Rattle.esto_access.proofs.CompleteLemmas.{same_count}
use Rattle.esto_access.proofs.completion.are_complete.Goals as goal

pub is_complete-requires : goal.is_complete-requires
is_complete-requires c =
    subst (λ count. AreSuppliesOf count c.args.supplies.now)
    (sym (same_count c.args.products.now c.products_are_antichains.ensures.over c.sets.at c.in_ok-low.low c.in_ok-low.ensures)) c.requires

pub sets-preserved : goal.sets-preserved
sets-preserved c =
    (each_step (λ _ low. IsCompletedIn c.args.supplies.now low low) c.args.products.now.sets c.sets.at c.in_ok-low.low c.in_ok-low.ensures).1
    (c.sets.invariant, c.is_complete.ensures c.if-not-is_complete.false)

pub returns : goal.returns
returns c = λ _ low inside.
    let at = place-from_Contains c.args.products.now.sets low inside in
    (each_all (λ _ it. IsCompletedIn c.args.supplies.now it it) c.args.products.now.sets c.sets.at
    (omega (arith, c.sets-test.false, c.len-at-end.ensures))).0 c.sets.invariant at.0 low at.1
