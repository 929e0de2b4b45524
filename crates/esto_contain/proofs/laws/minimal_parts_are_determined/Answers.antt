use Rattle.esto_contain.proofs.AlikeLemmas.{renamed_parts}
use Rattle.esto_contain.proofs.MinimisedLemmas.{minimised_is_one}
use Rattle.esto_contain.proofs.laws.minimal_parts_are_determined.Goals as goal

pub returns-clause-one : goal.returns-clause-one
returns-clause-one c = minimised_is_one c.runs_have_one_end.ensures.state c.renamed_plans_are_one.ensures.query

pub returns-clause-alike : goal.returns-clause-alike
returns-clause-alike c = renamed_parts c.chosen_atoms_are_named.ensures c.renamed_plans_are_one.ensures.undone
