use Rattle.esto_input_laws.proofs.LayoutReadingLemmas.{layout_reading}
use Rattle.esto_input_laws.proofs.QueryLemmas.{query_reading, union_reading}
use Rattle.esto_input_laws.proofs.RuleLemmas.{constraint_reading}
use Rattle.esto_input_laws.proofs.readings.readings_are_total.Goals as goal

pub returns-clause-query : goal.returns-clause-query
returns-clause-query c = λ form words schema vocabulary bytes. query_reading words schema vocabulary bytes form

pub returns-clause-union : goal.returns-clause-union
returns-clause-union c = λ words schema vocabulary bytes. union_reading words schema vocabulary bytes

pub returns-clause-constraint : goal.returns-clause-constraint
returns-clause-constraint c = λ version words schema vocabulary bytes. constraint_reading version words schema vocabulary bytes

pub returns-clause-layout : goal.returns-clause-layout
returns-clause-layout c = λ columns bytes. layout_reading columns bytes
