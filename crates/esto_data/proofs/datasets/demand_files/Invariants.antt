use Rattle.esto_data.proofs.DatasetLemmas.{SoFarDemanded}
use Rattle.esto_data.proofs.datasets.demand_files.Given as goal

abbrev pub invariant-numbers : goal.invariant-numbers
invariant-numbers l = SoFarDemanded l.datasets l.numbers l.number-index
