use Rattle.esto_instance.proofs.ReceivingLemmas.{match-sends, row-flat}
use Rattle.esto_instance.proofs.receiving.sending.Goals as goal

pub matching-requires : goal.matching-requires
matching-requires c = row-flat c.args.terms.now c.in_ok-body.body c.in_ok-body.ensures c.requires

pub returns : goal.returns
returns c =
    match-sends c.args.terms.now c.args.targets.now c.in_ok-body.body c.in_ok-facts.facts c.in_ok-body.ensures c.in_ok-facts.ensures
    c.valuations_are_maps.ensures.keeps c.valuations_are_maps.ensures.extends c.matching.result c.matching.ensures
