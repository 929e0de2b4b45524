use Rattle.esto_bench.specs.Made.{AreMadeFragments}
use Rattle.esto_bench.proofs.fragments.made_fragments.Given as goal

abbrev pub invariant-relations : goal.invariant-relations
invariant-relations l = AreMadeFragments l.relation l.fragments
