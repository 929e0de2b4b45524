use Rattle.std.proofs.Common.{◌≡◌, Some, slice_get, subst}
use Rattle.esto_known.proofs.CoverLemmas.{read_at}
use Rattle.esto_known.proofs.live.link_at.Goals as goal

pub returns-then-says_one : goal.returns-then-says_one
returns-then-says_one c = (
  subst (λ it. slice_get it c.args.place ≡ Some c.in-Some.entry.now) c.items.ensures
      (read_at c.items.result.now c.args.place c.in-Some.entry.now c.in-Some.ensures.lookup.0 c.in-Some.ensures.lookup.1),
  c.says_one.ensures.0 c.if-says_one.true,
)
