use Rattle.std.proofs.Common.{◌≡◌, Some, slice_get, subst}
use Rattle.esto_known.proofs.CoverLemmas.{read_at}
use Rattle.esto_condchase.proofs.steps.fact_at.Goals as goal

pub returns : goal.returns
returns c = (
  subst (λ it. slice_get it c.args.place ≡ Some c.in-Some.entry.now) c.items.ensures
      (read_at c.items.result.now c.args.place c.in-Some.entry.now c.in-Some.ensures.lookup.0 c.in-Some.ensures.lookup.1),
  c.in-Some-like.ensures.0,
  c.in-Some-like.ensures.1,
)
