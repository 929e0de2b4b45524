use Rattle.esto_contain.proofs.ToldLemmas.{no_is_shown, told_is_one}
use Rattle.esto_contain.proofs.laws.what_is_told_is_determined.Goals as goal

pub returns-clause-one : goal.returns-clause-one
returns-clause-one c = told_is_one c.runs_have_one_end.ensures.state

pub returns-clause-shown : goal.returns-clause-shown
returns-clause-shown c =
    no_is_shown c.states_are_universal.ensures.query c.universal_instances_decide_containment.ensures.query
    c.universal_instances_show_what_is_not_contained.ensures
