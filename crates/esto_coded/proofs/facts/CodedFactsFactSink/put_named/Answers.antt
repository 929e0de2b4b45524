use Rattle.std.proofs.Common.{◌∷◌, []}
use Rattle.esto_term.specs.declared.term.Term.TheVariants.{Const, Plain}
use Rattle.esto_coded.proofs.SinkLemmas.{node_code, text_code, text_row}
use Rattle.esto_coded.proofs.facts.CodedFactsFactSink.put_named.Goals as goal

pub invariant_of-self : goal.invariant_of-self
invariant_of-self c = c.self.invariant

pub invariant_of-self-2 : goal.invariant_of-self-2
invariant_of-self-2 c = c.put_row.ensures.whole c.self.invariant

pub returns : goal.returns
returns c =
    text_row c.args.self.now c.self.inside.codes c.code_of_text.new.codes c.self.inside.relations.items c.put_row.new.relations.items c.args.relation
    (Plain c.args.node ∷ Const c.args.name.now ∷ Plain c.args.other ∷ []) (c.in_ok-node.node ∷ c.in_ok-name.name ∷ c.in_ok-other.other ∷ [])
    c.put_row.result c.self.view_is c.code_of_text.ensures.grown (
      node_code _ c.args.node _ c.in_ok-node.ensures,
      (text_code _ c.args.name.now _ c.in_ok-name.ensures.code, (node_code _ c.args.other _ c.in_ok-other.ensures, tt)),
    )
    c.put_row.ensures.row
