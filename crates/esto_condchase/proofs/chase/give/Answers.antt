use Rattle.std.proofs.Common.{sym, ◌∙◌}
use Rattle.std.proofs.lemmas.Result.{on_ok_weaker}
use Rattle.esto_condchase.proofs.chase.give.Goals as goal

pub add-added-requires : goal.add-added-requires
add-added-requires c entry inside = c.requires.counts entry inside ∙ sym c.in_ok-entry.ensures.counted

pub returns : goal.returns
returns c = on_ok_weaker c.add-added.result (λ added. (c.in_ok-entry.entry, c.in_ok-entry.ensures.is, c.in_ok-entry.ensures.counted, added)) c.add-added.ensures
