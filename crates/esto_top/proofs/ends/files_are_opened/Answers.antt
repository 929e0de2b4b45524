use Rattle.esto_top.proofs.OpeningLemmas.{catalogue_opens, query_opens, union_opens}
use Rattle.esto_top.proofs.ends.files_are_opened.Goals as goal

pub returns-clause-catalogue : goal.returns-clause-catalogue
returns-clause-catalogue c = λ files name. catalogue_opens c.reading_laws_hold.ensures files name

pub returns-clause-query : goal.returns-clause-query
returns-clause-query c = λ files name catalogue. query_opens c.reading_laws_hold.ensures files name catalogue

pub returns-clause-union : goal.returns-clause-union
returns-clause-union c = λ files name catalogue. union_opens c.reading_laws_hold.ensures files name catalogue
