use Rattle.esto_bench.specs.Made.{AreOpenedBelow}
use Rattle.esto_bench.proofs.rows.made_opened.Given as goal

abbrev pub invariant-fragments : goal.invariant-fragments
invariant-fragments l = AreOpenedBelow l.catalogue l.number l.opened
