use Rattle.std.proofs.Common.{[], sym, subst}
use Rattle.esto_columns.specs.Indexed.{IsIndexOf}
use Rattle.esto_known.proofs.keys.Keys.new.Goals as goal

pub returns : goal.returns
returns c = record {
  by_claim = subst (λ it. IsIndexOf it []) (sym c.by_claim.view_is) c.in_ok-by_claim.ensures;
  by_first = c.in_ok-by_first.ensures;
  by_second = c.in_ok-new.ensures;
}
