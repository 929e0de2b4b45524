use Rattle.esto_semantics.proofs.WellFormedLemmas.{over_schema-AreOver, over_schema-Meets, over_schema-IsAnswerOf}
use Rattle.esto_semantics.proofs.well_formed.facts_outside_a_schema_do_not_count.Goals as goal

pub returns-clause-over : goal.returns-clause-over
returns-clause-over c = over_schema-AreOver

pub returns-clause-rules : goal.returns-clause-rules
returns-clause-rules c schema rules database over = over_schema-Meets schema database rules over

pub returns-clause-answers : goal.returns-clause-answers
returns-clause-answers c schema side database row over = over_schema-IsAnswerOf schema database side row over
