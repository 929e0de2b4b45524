use Rattle.std.proofs.Common.{◌∷◌, []}
use Rattle.esto_term.specs.declared.term.Term.TheVariants.{Plain}
use Rattle.esto_coded.proofs.SinkLemmas.{node_code, node_row}
use Rattle.esto_coded.proofs.facts.CodedFactsFactSink.put_one.Goals as goal

pub invariant_of-self : goal.invariant_of-self
invariant_of-self c = c.put_row.ensures.whole c.self.invariant

pub returns : goal.returns
returns c =
    node_row c.args.self.now c.self.inside.codes c.self.inside.relations.items c.put_row.new.relations.items c.args.relation
    (Plain c.args.node ∷ []) (c.in_ok-node.node ∷ [])
    c.put_row.result c.self.view_is
    (node_code _ c.args.node _ c.in_ok-node.ensures, tt) c.put_row.ensures.row
