use Rattle.esto_known.proofs.TellLemmas.{tell_none, tell_turn, tell_all}
use Rattle.esto_known.proofs.covered.telling.Goals as goal

pub terms-init : goal.terms-init
terms-init c = tell_none c.args.from.now _ c.new-these.ensures

pub terms-preserved : goal.terms-preserved
terms-preserved c = tell_turn c.args.from.now c.args.terms.now c.terms.these _ c.terms.term-index c.term-item.result c.terms-test.true c.term-item.is
    c.terms.invariant c.in_ok-put.ensures

pub returns : goal.returns
returns c = tell_all c.args.from.now c.args.terms.now c.terms.these c.terms.term-index c.terms-test.false c.terms.invariant
