use Rattle.esto_term.proofs.PlaceLemmas.{item_at}
use Rattle.esto_coded.proofs.AnswerLemmas.{there_tells}
use Rattle.esto_coded.proofs.answers.is_over.Goals as goal

pub returns-in-Some : goal.returns-in-Some
returns-in-Some c = there_tells c.args.relations.now c.args.atom.now c.in-Some.relation.now c.arity.result c.len.result
    (item_at c.args.relations.now c.args.atom.now.relation c.in-Some.relation.now c.in-Some.ensures.lookup.3.0 c.in-Some.ensures.lookup.1)
    c.arity.ensures.value c.arity.ensures.fits c.len.ensures
