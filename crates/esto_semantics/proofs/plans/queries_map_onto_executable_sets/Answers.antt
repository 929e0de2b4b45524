use Rattle.esto_semantics.proofs.RewritingLemmas.{queries_map_onto}
use Rattle.esto_semantics.proofs.plans.queries_map_onto_executable_sets.Goals as goal

pub returns : goal.returns
returns c = queries_map_onto
