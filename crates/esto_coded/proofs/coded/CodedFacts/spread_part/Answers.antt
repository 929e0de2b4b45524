use Rattle.esto_coded.proofs.VerdictLemmas.{spread_gives}
use Rattle.esto_coded.proofs.coded.CodedFacts.spread_part.Goals as goal

pub returns : goal.returns
returns c =
    spread_gives c.args.self.now c.args.lead.now c.args.over.now c.args.body.now c.args.seed c.in-Ok-Some.set
    (rw c.in-Ok-Some.field-0-is at (rw c.in-Ok-Some.is at c.spread.ensures)) c.part_from.result c.part_from.ensures c.ok.result c.ok.ensures.value
