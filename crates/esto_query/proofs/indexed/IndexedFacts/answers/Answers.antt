use Rattle.std.proofs.Common.{Contains}
use Rattle.std.proofs.lemmas.Result.{IfOk-weaker}
use Rattle.esto_semantics.specs.Queries.{IsAnswerInto}
use Rattle.esto_term.specs.declared.term.Term.TheVariants.{Const}
use Rattle.esto_query.specs.Making.{query_of}
use Rattle.esto_query.proofs.RowLemmas.{answers_are}
use Rattle.esto_query.proofs.indexed.IndexedFacts.answers.Goals as goal

pub returns-clause-rows : goal.returns-clause-rows
returns-clause-rows c = IfOk-weaker c.in_order.result _ _
    (λ kept. answers_are (IsAnswerInto Const (query_of c.args.query.now) (Contains c.args.self.now)) c.new-rows.result.items c.add_answers.new.rows.items kept
    c.new-rows.ensures.items c.in_ok-add_answers.ensures) c.in_order.ensures.rows

pub returns-clause-ascending : goal.returns-clause-ascending
returns-clause-ascending c = c.in_order.ensures.ascending
