use Rattle.std.proofs.Common.{arith}
use Rattle.std.proofs.lemmas.Grind.{common_steps}
use Rattle.esto_table.proofs.HashLemmas.{hash_step, term_hash-Made}
use Rattle.esto_table.proofs.hash.+term_hash.Goals as goal

pub frontier-preserved : goal.frontier-preserved
frontier-preserved t c = rw (c.mixed-hash-in-frontier.ensures, c.term_hash.ensures)
    (hash_step c.items-part-items.result.now c.frontier.part-index c.part-item.result c.frontier.hash _ c.frontier-test.true c.part-item.is
    c.frontier.invariant)

pub returns-after-frontier : goal.returns-after-frontier
returns-after-frontier t c = grind (arith, common_steps, term_hash-Made)
