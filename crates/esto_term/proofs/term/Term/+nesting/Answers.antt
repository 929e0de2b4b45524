use Rattle.std.proofs.Common.{arith}
use Rattle.std.proofs.lemmas.Grind.{common_steps}
use Rattle.esto_term.proofs.NestingLemmas.{nesting-Made, nesting_above-step}
use Rattle.esto_term.proofs.term.Term.+nesting.Goals as goal

pub frontier-preserved : goal.frontier-preserved
frontier-preserved t c =
    rw (c.max-nesting.ensures, c.saturating_add.ensures, c.nesting.ensures)
    (nesting_above-step _ _ _ _ _ c.frontier-test.true c.part-item.is c.frontier.invariant)

pub returns-after-frontier : goal.returns-after-frontier
returns-after-frontier t c = grind (arith, common_steps, nesting-Made)
