use Rattle.std.proofs.Common.{◌∙◌, subst, arith}
use Rattle.esto_bits.specs.Kept.{AreOver}
use Rattle.esto_access.proofs.CompleteLemmas.{all_completed_grows, all_completed_end}
use Rattle.esto_access.proofs.CompletionLemmas.{completed_is_minimal}
use Rattle.esto_access.proofs.completion.complete_each.Goals as goal

pub sets-preserved : goal.sets-preserved
sets-preserved c =
    let (low, at, grows) = c.in_ok-add_completions.ensures.covers in (
      c.add_completions.ensures.count ∙ c.sets.invariant.0,
      all_completed_grows c.args.supplies.now c.args.products.now.sets c.sets.at low at c.sets.found.sets c.add_completions.new.found.sets grows
          c.sets.invariant.1,
    )

pub returns-clause-covers : goal.returns-clause-covers
returns-clause-covers c =
    all_completed_end c.args.supplies.now c.args.products.now.sets c.sets.at c.sets.found.sets (omega (arith, c.sets-test.false, c.len-at-end.ensures))
    c.sets.invariant.1

pub returns-clause-minimal : goal.returns-clause-minimal
returns-clause-minimal c =
    completed_is_minimal c.args.products.now.count c.args.supplies.now c.requires.supplies.over c.args.products.now.sets c.sets.found.sets
    (subst (λ count. AreOver count c.sets.found.sets) c.sets.invariant.0 c.products_are_antichains-2.ensures.over) c.products_are_antichains-2.ensures.antichain
    (returns-clause-covers c)
