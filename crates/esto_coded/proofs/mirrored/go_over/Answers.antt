use Rattle.std.proofs.Common.{List, subst, Contains}
use Rattle.esto_term.specs.declared.term.Term.{Term}
use Rattle.esto_coded.proofs.MirrorLemmas.{is_mirrored}
use Rattle.esto_coded.proofs.mirrored.go_over.Goals as goal

pub returns : goal.returns
returns c told =
    is_mirrored c.args.first.now c.args.second.now c.args.left.now c.args.right.now c.args.shared.now c.args.from.now c.args.to.now c.requires.flat
    c.requires.shared c.requires.from c.requires.to
    (subst (λ (terms : List Term). Contains terms c.args.left.now) c.items.ensures (c.has_term.ensures.0 c.if-not-has_term.false))
    (c.atoms_go.ensures c.if-not-atoms_go.false) (c.atoms_go-else-not-atoms_go.ensures c.if-not-atoms_go-2.false) (c.sides_go.ensures c.if-not-sides_go.false)
    (c.sides_go-2.ensures told)
