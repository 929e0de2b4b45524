use Rattle.esto_top.proofs.DataOneLemmas.{answers_one, audits_one, fills_one, makes_one}
use Rattle.esto_top.proofs.data_laws.data_outcomes_are_one.Goals as goal

pub returns-clause-fills : goal.returns-clause-fills
returns-clause-fills c = λ files catalogue_name name. fills_one c.data_commands_hold.ensures files catalogue_name name

pub returns-clause-makes : goal.returns-clause-makes
returns-clause-makes c = λ files catalogue_name name. makes_one c.data_commands_hold.ensures files catalogue_name name

pub returns-clause-answers : goal.returns-clause-answers
returns-clause-answers c = λ files catalogue_name query_name. answers_one c.data_commands_hold.ensures files catalogue_name query_name

pub returns-clause-audits : goal.returns-clause-audits
returns-clause-audits c = λ files name. audits_one c.data_commands_hold.ensures files name
