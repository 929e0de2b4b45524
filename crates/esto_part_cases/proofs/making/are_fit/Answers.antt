use Rattle.esto_part_cases.specs.Bodies.{IsFit}
use Rattle.esto_part_cases.proofs.making.are_fit.Goals as goal
use Rattle.esto_term.proofs.ListLemmas.{each_more, each_seen}

pub terms-preserved : goal.terms-preserved
terms-preserved c =
    each_more (IsFit 100) _ _ _ c.terms-test.true c.term-item.is (c.is_fit.ensures c.if-not-is_fit.false) c.terms.invariant

pub returns : goal.returns
returns c = λ _. each_seen (IsFit 100) _ c.terms.term-index c.terms-test.false c.terms.invariant
