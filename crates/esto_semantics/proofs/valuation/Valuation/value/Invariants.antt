use Rattle.std.proofs.Common.{◌≡◌, reverse}
use Rattle.std.specs.Ordering.{nat_cmp}
use Rattle.std.specs.FinMap.{find}
use Rattle.esto_semantics.proofs.ValuationLemmas.{last_of}
use Rattle.esto_semantics.proofs.valuation.Valuation.value.Given as goal

abbrev pub invariant-loop-at : goal.invariant-loop-at
invariant-loop-at l = last_of l.bindings l.variable l.at ≡ find nat_cmp l.variable (reverse l.bindings)
