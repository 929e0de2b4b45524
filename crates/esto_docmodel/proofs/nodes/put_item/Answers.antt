use Rattle.esto_term.specs.declared.term.Term.TheVariants.{Plain}
use Rattle.esto_docmodel.specs.DocumentFacts.{item}
use Rattle.esto_docmodel.proofs.nodes.put_item.Goals as goal

pub put_two-requires : goal.put_two-requires
put_two-requires g c = c.requires.room (item (Plain c.args.parent) (Plain c.args.node))
