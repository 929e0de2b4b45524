use Rattle.esto_term.proofs.ListLemmas.{each_more, each_seen}
use Rattle.esto_known.specs.Told.{TellsOne}
use Rattle.esto_known.proofs.TellLemmas.{tells_more}
use Rattle.esto_known.proofs.kept.telling_places.Goals as goal

pub terms-preserved : goal.terms-preserved
terms-preserved c = each_more (TellsOne c.args.from.now c.put_place.new.places) c.args.terms.now c.terms.term-index c.term-item.result c.terms-test.true
    c.term-item.is c.in_ok-put_place.ensures.told (λ term inside. tells_more c.args.from.now c.terms.places c.put_place.new.places term
    c.in_ok-put_place.ensures.kept (c.terms.invariant term inside))

pub returns : goal.returns
returns c = each_seen (TellsOne c.args.from.now c.terms.places) c.args.terms.now c.terms.term-index c.terms-test.false c.terms.invariant
