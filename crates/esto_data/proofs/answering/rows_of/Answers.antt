use Rattle.std.proofs.Common.{subst, sym}
use Rattle.esto_course.specs.Course.{judges}
use Rattle.esto_data.specs.Coding.{HaveOneLength}
use Rattle.esto_fill.specs.Texts.{AreTextsOf, IsFirstNodeColumn}
use Rattle.esto_data.specs.Answer.{IsUnionAnswerOfFacts}
use Rattle.esto_data.proofs.StepLemmas.{node_stops}
use Rattle.esto_data.proofs.answering.rows_of.Goals as goal

pub answer_union_coded-requires-clause-lengths : goal.answer_union_coded-requires-clause-lengths
answer_union_coded-requires-clause-lengths c = subst HaveOneLength (sym c.items.ensures) c.requires.union.lengths

pub returns-in-Ok : goal.returns-in-Ok
unfolding judges
returns-in-Ok c loaded stands =
    subst (λ it. AreTextsOf (IsUnionAnswerOfFacts it loaded.facts) c.in-Ok.rows) c.items.ensures (c.in-Ok.ensures.rows loaded stands)

pub returns-in-Err-NodeInRow : goal.returns-in-Err-NodeInRow
returns-in-Err-NodeInRow c loaded stands =
    let first = rw c.in-Err-NodeInRow.field-0-is at (c.in-Err-NodeInRow.ensures.rows loaded stands) in
    node_stops (IsUnionAnswerOfFacts c.args.queries.now loaded.facts) c.in-Err-NodeInRow.column
    (subst (λ it. IsFirstNodeColumn (IsUnionAnswerOfFacts it loaded.facts) c.in-Err-NodeInRow.column) c.items.ensures first)
