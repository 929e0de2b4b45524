use Rattle.esto_term.proofs.PlaceLemmas.{item_at}
use Rattle.esto_coded.specs.Relations.{coded_of}
use Rattle.esto_coded.proofs.SpreadLemmas.{spreads_none, spreads_more, spreads_all}
use Rattle.esto_coded.proofs.spread.take_atoms.Goals as goal

pub atoms-init : goal.atoms-init
atoms-init c = λ texts. spreads_none (coded_of texts c.args.relations.now) c.args.lead.now c.args.atoms.now c.args.set.now

pub atoms-preserved : goal.atoms-preserved
atoms-preserved c = λ texts. spreads_more (coded_of texts c.args.relations.now) c.args.lead.now c.args.atoms.now c.split_at.result.0.now c.atoms.at
    c.index-atoms-at.result c.args.set.now c.atoms.set c.take_atom.new.set
    (item_at c.args.atoms.now c.atoms.at c.index-atoms-at.result c.atoms-test.true c.index-atoms-at.is) c.split_at.ensures.front
    (c.atoms.invariant texts) (c.in_ok-take_atom.ensures texts)

pub returns : goal.returns
returns c = λ few texts. spreads_all (coded_of texts c.args.relations.now) c.args.lead.now c.args.atoms.now c.atoms.at c.args.set.now c.atoms.set
    c.atoms-test.false (c.atoms.invariant texts)
