use Rattle.std.proofs.Common.{◌++◌, ap, ◌∙◌}
use Rattle.std.proofs.lemmas.Result.{on_ok_weaker}
use Rattle.esto_known.proofs.groups.put_places.Goals as goal

pub returns : goal.returns
returns c = on_ok_weaker c.put_all.result (λ grown listed is. (
  c.in_ok-found.found.items,
  c.in_ok-found.ensures listed is,
  grown ∙ ap (λ them. c.args.places.now ++ them) c.as_slice.ensures.value,
)) c.put_all.ensures
