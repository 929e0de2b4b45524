use Rattle.std.proofs.Common.{◌++◌, ◌∷◌, [], ap, ◌∙◌, sym}
use Rattle.std.proofs.lemmas.List.{take_all}
use Rattle.esto_term.specs.declared.term.Term.TheVariants.{Made}
use Rattle.esto_term.proofs.PlaceLemmas.{take-item}
use Rattle.esto_term.proofs.term.+copy.Goals as goal

pub copied_made-frontier-preserved : goal.copied_made-frontier-preserved
copied_made-frontier-preserved t c =
    c.in_ok-push.ensures.ok ∙ (λ i. c.frontier.invariant i ++ c.in_ok-part.ensures i ∷ [])
    ∙ sym (take-item _ _ c.part-item.result c.frontier-test.true c.part-item.is)

pub copied_made-returns : goal.copied_made-returns
copied_made-returns t c = ap (Made c.args.rule c.args.variable) (c.frontier.invariant ∙ take_all c.frontier.part-index _ c.frontier-test.false)
