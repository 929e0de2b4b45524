use Rattle.std.proofs.lemmas.Result.{on_ok_weaker}
use Rattle.esto_known.proofs.DoneLemmas.{handed_on}
use Rattle.esto_known.proofs.TouchLemmas.{both_from_none}
use Rattle.esto_known.proofs.touching.minimal_unions.Goals as goal

pub returns-clause-covers : goal.returns-clause-covers
returns-clause-covers c = handed_on c.add_both.result _ c.and.result c.and.ensures _
    (on_ok_weaker c.add_both.result (both_from_none c.new-found.result.sets c.args.sets.now.sets c.args.others.now.sets c.add_both.new.self.sets
    c.new-found.ensures.empty) c.add_both.ensures.covers)
