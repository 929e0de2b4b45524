use Rattle.std.proofs.Common.{◌∙◌, subst, sym}
use Rattle.std.proofs.lemmas.Result.{on_ok_weaker}
use Rattle.esto_access.proofs.NeedLemmas.{covers_also}
use Rattle.esto_access.specs.Completion.{AreSuppliesOf, IsCompletedIn}
use Rattle.esto_access.proofs.CompleteLemmas.{same_count}
use Rattle.esto_access.proofs.completion.add_completions.Goals as goal

pub completions_of-requires-clause-supplies : goal.completions_of-requires-clause-supplies
completions_of-requires-clause-supplies c =
    subst (λ count. AreSuppliesOf count c.args.supplies.now)
    (sym (same_count c.args.products.now c.products_are_antichains.ensures.over c.args.at c.in_ok-low.low c.in_ok-low.ensures)) c.requires.supplies

pub add_all-requires : goal.add_all-requires
add_all-requires c =
    c.in_ok-completed.ensures.count
    ∙ same_count c.args.products.now c.products_are_antichains.ensures.over c.args.at c.in_ok-low.low c.in_ok-low.ensures
    ∙ sym c.requires.count

pub returns-clause-covers : goal.returns-clause-covers
returns-clause-covers c = on_ok_weaker c.add_all.result
    (λ also. (
      c.in_ok-low.low,
      c.in_ok-low.ensures,
      covers_also c.args.found.now.sets c.in_ok-completed.completed.sets c.add_all.new.self.sets
          (IsCompletedIn c.args.supplies.now c.in_ok-low.low) c.in_ok-completed.ensures.covers also,
    )) c.add_all.ensures.covers
