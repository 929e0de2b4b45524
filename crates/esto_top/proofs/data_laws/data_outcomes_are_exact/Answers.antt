use Rattle.esto_top.proofs.DataExactLemmas.{answers_exact, audits_exact, fills_exact, unions_exact}
use Rattle.esto_top.proofs.data_laws.data_outcomes_are_exact.Goals as goal

pub returns-clause-fills : goal.returns-clause-fills
returns-clause-fills c = λ files catalogue_name name catalogue say. fills_exact c.data_commands_hold.ensures
    c.catalogues_are_sound.ensures files catalogue_name catalogue say name

pub returns-clause-answers : goal.returns-clause-answers
returns-clause-answers c = λ files catalogue_name query_name catalogue query say say_query. answers_exact c.data_commands_hold.ensures
    c.catalogues_are_sound.ensures files catalogue_name catalogue say c.opened_unions_are_queries.ensures.one query_name query say_query

pub returns-clause-unions : goal.returns-clause-unions
returns-clause-unions c = λ files catalogue_name query_name catalogue queries say say_union. unions_exact c.data_commands_hold.ensures
    c.catalogues_are_sound.ensures files catalogue_name catalogue say c.opened_unions_are_queries.ensures.said query_name queries say_union

pub returns-clause-audits : goal.returns-clause-audits
returns-clause-audits c = λ files name catalogue say. audits_exact c.data_commands_hold.ensures
    c.catalogues_are_sound.ensures files name catalogue say
