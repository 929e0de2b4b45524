use Rattle.std.proofs.Common.{◌≤◌, sym, subst}
use Rattle.std.proofs.lemmas.Nat.{le_or_r}
use Rattle.esto_columns.proofs.index.Index.new.Goals as goal

pub invariant_of-result : goal.invariant_of-result
invariant_of-result c = subst (λ long. 1 ≤ long) (sym c.in_ok-last.ensures.long) (le_or_r c.args.room 1)
