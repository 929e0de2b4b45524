use Rattle.std.proofs.Common.{◌<◌}
use Rattle.esto_semantics.specs.declared.fact.Fact.{Fact}
use Rattle.esto_term.specs.declared.term.Term.{Term}
use Rattle.esto_term.proofs.ListLemmas.{each_more, each_seen}
use Rattle.esto_part_cases.proofs.chasing.are_below.Goals as goal

pub atoms-preserved : goal.atoms-preserved
atoms-preserved c =
    each_more (λ (atom : Fact Term). atom.relation < c.args.relations) _ _ _ c.atoms-test.true c.atom-item.is c.if-atom-relations.false c.atoms.invariant

pub returns : goal.returns
returns c = λ _. each_seen (λ (atom : Fact Term). atom.relation < c.args.relations) _ c.atoms.atom-index c.atoms-test.false c.atoms.invariant
