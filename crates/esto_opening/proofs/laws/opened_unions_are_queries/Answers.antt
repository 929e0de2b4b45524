use Rattle.std.proofs.Common.{Some, refl}
use Rattle.esto_opening.proofs.UnionLemmas.{one_opens, opened_form, opens_alone, said_open, unions_open}
use Rattle.esto_opening.proofs.laws.opened_unions_are_queries.Goals as goal

pub returns-clause-union : goal.returns-clause-union
returns-clause-union c = opened_form

pub returns-clause-said : goal.returns-clause-said
returns-clause-said c = said_open

pub returns-clause-one : goal.returns-clause-one
returns-clause-one c = λ files name catalogue query. one_opens c.unions_of_one_are_queries.ensures catalogue files name query

pub returns-clause-alone : goal.returns-clause-alone
returns-clause-alone c = λ files name catalogue query goes.
    opens_alone files name catalogue query
    (unions_open c.catalogues_are_sound.ensures c.union_readings_are_determined.ensures.reading c.union_readings_are_determined.ensures.apart
    c.union_readings_are_determined.ensures.fault files catalogue catalogue
    (record {
      schema = refl;
      words = refl;
      datasets = refl;
      names = refl;
      views = refl;
      patterns = refl;
      weights = refl;
      stores = refl;
      rules = refl;
      rule_names = refl;
      given = refl;
      ranks = refl;
      core = refl;
    }) name)
    ((one_opens c.unions_of_one_are_queries.ensures catalogue (Some files) name query).1 goes)
