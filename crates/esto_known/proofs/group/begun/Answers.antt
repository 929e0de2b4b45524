use Rattle.std.proofs.Common.{◌∙◌}
use Rattle.std.proofs.lemmas.Result.{on_ok_weaker}
use Rattle.esto_known.proofs.DoneLemmas.{handed_on}
use Rattle.esto_known.proofs.TouchLemmas.{one_from_none}
use Rattle.esto_known.proofs.group.begun.Goals as goal

pub returns : goal.returns
returns c = handed_on c.add.result _ c.and.result c.and.ensures _
    (on_ok_weaker c.add.result (λ also. record {
      claim = c.in_ok-claim.ensures;
      places = c.in_ok-places.ensures;
      count = c.add.ensures.count ∙ c.new-by.ensures.count ∙ c.count.ensures;
      covers = one_from_none c.new-by.result.sets c.args.entry.now.product c.add.new.self.sets c.new-by.ensures.empty also;
    }) c.add.ensures.covers)
