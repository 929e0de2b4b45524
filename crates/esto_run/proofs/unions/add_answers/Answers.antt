use Rattle.std.proofs.Common.{◌++◌, ◌∷◌, [], ap, sym, subst, ◌∙◌}
use Rattle.std.proofs.lemmas.Result.{on_ok_weaker}
use Rattle.esto_columns.specs.CodedRows.{CodedRows}
use Rattle.esto_run.specs.Coded.{AreCodesOfAll, IsStoredRow}
use Rattle.esto_run.specs.Laws.{IsAnswerOfOne}
use Rattle.esto_run.specs.Picks.{candidate_of}
use Rattle.esto_run.proofs.UnionLemmas.{answers_more}
use Rattle.esto_run.proofs.unions.add_answers.Goals as goal

pub coded_answers-requires-clause-order : goal.coded_answers-requires-clause-order
coded_answers-requires-clause-order c = let runnable = c.requires.runnable in (c.args.pick.now.set.now, runnable.order, runnable.safe)

pub add_all-requires : goal.add_all-requires
add_all-requires c = sym (c.in_ok-own.ensures.arity ∙ c.requires.arity)

pub returns-clause-rows : goal.returns-clause-rows
returns-clause-rows c = on_ok_weaker c.add_all.result (λ is queries are.
    let pick = c.args.pick.now in
    let Holds = IsStoredRow c.args.codes.now c.args.stored.now in
    subst (λ (them : CodedRows). AreCodesOfAll c.coded_answers.new.codes them.rows (IsAnswerOfOne Holds (queries ++ candidate_of pick ∷ [])))
    (sym is)
    (answers_more c.args.codes.now c.coded_answers.new.codes c.coded_answers.ensures.grown Holds c.args.rows.now.rows c.in_ok-own.own.rows queries
    (candidate_of pick) are (c.in_ok-own.ensures.answers pick.set.now c.requires.runnable.order)))
    c.add_all.ensures

pub returns-clause-arity : goal.returns-clause-arity
returns-clause-arity c = on_ok_weaker c.add_all.result (λ is. ap (λ (them : CodedRows). them.arity) is) c.add_all.ensures
