use Rattle.std.proofs.Common.{◌≡◌}
use Rattle.esto_bench.specs.Case.{made_stores}
use Rattle.esto_bench.proofs.fragments.made_stores.Given as goal

abbrev pub invariant-relations : goal.invariant-relations
invariant-relations l = l.stores ≡ made_stores l.relation
