use Rattle.esto_top.proofs.AgreedLemmas.{outcomes_agree, union_outcomes_agree}
use Rattle.esto_top.proofs.laws.answers_agree_with_runs.Goals as goal

pub returns-clause-one : goal.returns-clause-one
returns-clause-one c =
    outcomes_agree (record {
      audited = c.audited_datasets_answer.ensures.replies;
      refusals = c.audited_datasets_answer.ensures.refusals;
      rising = c.rising_rows_are_one.ensures;
    }) c.runs_are_exact.ensures

pub returns-clause-union : goal.returns-clause-union
returns-clause-union c =
    union_outcomes_agree (record {
      audited = c.audited_datasets_answer.ensures.replies;
      refusals = c.audited_datasets_answer.ensures.refusals;
      rising = c.rising_rows_are_one.ensures;
    }) c.union_runs_hold.ensures
