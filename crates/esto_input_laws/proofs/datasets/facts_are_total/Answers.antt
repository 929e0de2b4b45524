use Rattle.esto_input_laws.proofs.DatasetLemmas.{facts_or_fault}
use Rattle.esto_input_laws.proofs.datasets.facts_are_total.Goals as goal

pub returns : goal.returns
returns c = λ datasets files all. facts_or_fault datasets files all
