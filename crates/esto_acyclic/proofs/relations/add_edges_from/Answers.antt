use Rattle.std.proofs.Common.{◌∷◌, []}
use Rattle.esto_acyclic.proofs.PushLemmas.{flat_behind}
use Rattle.esto_acyclic.proofs.relations.add_edges_from.Goals as goal

pub atoms-preserved : goal.atoms-preserved
atoms-preserved c =
    flat_behind (λ atom. (c.args.relation, atom.relation) ∷ []) c.args.head.now c.atoms.atom-index c.atom-item.result c.atoms-test.true c.atom-item.is
    c.args.edges.now c.atoms.edges c.push.new.self c.atoms.invariant c.in_ok-push.ensures.ok
