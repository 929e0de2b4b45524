use Rattle.esto_semantics.proofs.WellFormedLemmas.{contained-from_well_formed, satisfiable_well_formed}
use Rattle.esto_semantics.proofs.well_formed.well_formed_databases_suffice.Goals as goal

pub returns-clause-contained : goal.returns-clause-contained
returns-clause-contained c schema rules left right are_rules rules_over left_over right_over =
    ((λ contained database shape meets. contained database meets), contained-from_well_formed schema rules left right are_rules rules_over left_over right_over)

pub returns-clause-satisfiable : goal.returns-clause-satisfiable
returns-clause-satisfiable c schema rules query are_rules rules_over query_over =
    (satisfiable_well_formed schema rules query are_rules rules_over query_over, (λ (database, shape, meets, answer). (database, meets, answer)))
