use Rattle.esto_semantics.specs.Spreads.{substituted}
use Rattle.esto_semantics.proofs.SubstitutionLemmas.{map_more}
use Rattle.esto_views.proofs.spread.Spread.atom.Goals as goal

pub terms-preserved : goal.terms-preserved
terms-preserved c =
    map_more (substituted c.args.self.now.from c.args.self.now.to) c.args.atom.now.terms c.terms.term-index c.term-item.result c.terms.terms _
    (rw c.items-term-items.ensures at c.terms-test.true) (rw c.items-term-items.ensures at c.term-item.is) c.in_ok-push_term.ensures c.terms.invariant
