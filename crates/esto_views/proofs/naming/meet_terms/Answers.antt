use Rattle.esto_views.proofs.NamingLemmas.{terms_turn, terms_end}
use Rattle.esto_views.proofs.naming.meet_terms.Goals as goal

pub terms-preserved : goal.terms-preserved
terms-preserved c =
    terms_turn c.args.names.now c.args.terms.now c.terms.term-index c.terms.met _ c.terms.invariant c.term-item.result c.meet_term.new.met
    c.terms-test.true c.term-item.is c.in_ok-meet_term.ensures

pub returns : goal.returns
returns c = terms_end c.args.names.now c.args.terms.now c.terms.term-index c.terms.met _ c.terms.invariant c.terms-test.false
