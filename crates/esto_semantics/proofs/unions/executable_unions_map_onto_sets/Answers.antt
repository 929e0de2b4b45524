use Rattle.esto_semantics.proofs.UnionLemmas.{unions_map_onto, listed_cover, list_is_one, rewritings_rise}
use Rattle.esto_semantics.proofs.unions.executable_unions_map_onto_sets.Goals as goal

pub returns-clause-onto : goal.returns-clause-onto
returns-clause-onto c = unions_map_onto

pub returns-clause-cover : goal.returns-clause-cover
returns-clause-cover c = listed_cover

pub returns-clause-one : goal.returns-clause-one
returns-clause-one c = list_is_one

pub returns-clause-rise : goal.returns-clause-rise
returns-clause-rise c = rewritings_rise
