use Rattle.std.proofs.Common.{◌↔◌, List, Contains, subst}
use Rattle.std.specs.Result.{IfOk}
use Rattle.esto_term.specs.declared.term.Term.{Term}
use Rattle.esto_term.specs.declared.term.Term.TheVariants.{Const}
use Rattle.esto_semantics.specs.Queries.{IsAnswerInto}
use Rattle.esto_semantics.specs.declared.fact.Fact.{Fact}
use Rattle.esto_query.specs.Making.{query_of}
use Rattle.esto_query.proofs.answer.answers.Goals as goal

pub returns-clause-rows : goal.returns-clause-rows
returns-clause-rows c =
    subst (λ (facts : List (Fact Term)). IfOk c.answers.result (λ rows. (row : List Term)
    → Contains rows row ↔ IsAnswerInto Const (query_of c.args.query.now) (Contains facts) row)) c.in_ok-indexed.ensures
    c.answers.ensures.rows

pub returns-clause-ascending : goal.returns-clause-ascending
returns-clause-ascending c = c.answers.ensures.ascending
