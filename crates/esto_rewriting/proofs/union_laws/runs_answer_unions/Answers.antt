use Rattle.esto_rewriting.proofs.AnswerLemmas.{chosen_rewrite, runs_answer}
use Rattle.esto_rewriting.proofs.union_laws.runs_answer_unions.Goals as goal

pub returns-clause-rewriting : goal.returns-clause-rewriting
returns-clause-rewriting c =
    chosen_rewrite c.planned_plans_have_their_form.ensures.form c.planned_plans_are_universal.ensures.unions
    c.planned_plans_are_universal.ensures.satisfiable c.planned_plans_are_universal.ensures.unsatisfiable c.picks_answer_unions.ensures.rewriting

pub returns-clause-answers : goal.returns-clause-answers
returns-clause-answers c =
    runs_answer c.planned_plans_have_their_form.ensures.form c.planned_plans_are_universal.ensures.unions
    c.planned_plans_are_universal.ensures.satisfiable c.planned_plans_are_universal.ensures.unsatisfiable c.picks_answer_unions.ensures.answers
    c.unions_answer_over_files.ensures
