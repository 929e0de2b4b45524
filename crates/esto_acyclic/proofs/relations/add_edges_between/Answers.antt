use Rattle.esto_constraint.specs.Relations.{edges_from}
use Rattle.esto_acyclic.proofs.PushLemmas.{flat_behind}
use Rattle.esto_acyclic.proofs.relations.add_edges_between.Goals as goal

pub atoms-preserved : goal.atoms-preserved
atoms-preserved c =
    flat_behind (λ atom. edges_from atom.relation c.args.head.now) c.args.body.now c.atoms.atom-index c.atom-item.result c.atoms-test.true c.atom-item.is
    c.args.edges.now c.atoms.edges c.add_edges_from.new.edges c.atoms.invariant c.in_ok-add_edges_from.ensures
