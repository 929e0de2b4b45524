use Rattle.esto_semantics.proofs.RewritingLemmas.{maps_onto_rewriting}
use Rattle.esto_semantics.proofs.plans.rewritings_map_onto_sets.Goals as goal

pub returns : goal.returns
returns c rules views patterns query plan other flat universal satisfiable rewriting =
    maps_onto_rewriting rules views patterns query plan other rewriting flat universal satisfiable
