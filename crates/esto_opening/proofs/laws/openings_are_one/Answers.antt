use Rattle.esto_opening.proofs.AlikeLemmas.{catalogues_open, queries_open}
use Rattle.esto_opening.proofs.UnionLemmas.{unions_open}
use Rattle.esto_opening.proofs.laws.openings_are_one.Goals as goal

pub returns-clause-catalogues : goal.returns-clause-catalogues
returns-clause-catalogues c = λ files name.
    catalogues_open c.catalogues_are_sound.ensures c.catalogues_are_determined.ensures.catalogue c.catalogues_are_determined.ensures.apart
    c.catalogues_are_determined.ensures.error c.readings_are_determined.ensures.reading c.readings_are_determined.ensures.apart
    c.readings_are_determined.ensures.fault files name

pub returns-clause-queries : goal.returns-clause-queries
returns-clause-queries c = λ files name catalogue other alike.
    queries_open c.catalogues_are_sound.ensures c.catalogues_are_determined.ensures.catalogue c.catalogues_are_determined.ensures.apart
    c.catalogues_are_determined.ensures.error c.readings_are_determined.ensures.reading c.readings_are_determined.ensures.apart
    c.readings_are_determined.ensures.fault files catalogue other alike name

pub returns-clause-unions : goal.returns-clause-unions
returns-clause-unions c = λ files name catalogue other alike.
    unions_open c.catalogues_are_sound.ensures c.union_readings_are_determined.ensures.reading c.union_readings_are_determined.ensures.apart
    c.union_readings_are_determined.ensures.fault files catalogue other alike name
