use Rattle.esto_semantics.proofs.PartLemmas.{part-IsExpansion}
use Rattle.esto_semantics.proofs.expansions.an_expansion_of_a_plan_expands_its_candidates.Goals as goal

pub returns : goal.returns
returns c = part-IsExpansion
