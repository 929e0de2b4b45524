use Rattle.esto_top.proofs.DeterminedLemmas.{courses_one}
use Rattle.esto_top.proofs.laws.courses_are_one.Goals as goal

pub returns : goal.returns
returns c =
    courses_one
    (record {
      opening = c.openings_hold.ensures;
      planning = c.plannings_hold.ensures;
      used = c.used_fragments_are_one.ensures;
      rising = c.rising_rows_are_one.ensures;
    })
    (record { lists = c.union_lists_are_one.ensures; runs = c.union_runs_are_one.ensures }) c.summaries_are_one.ensures
    (record {
      fills = c.data_outcomes_are_one.ensures.makes;
      answers = c.data_outcomes_are_one.ensures.answers;
      audits = c.data_outcomes_are_one.ensures.audits;
      contains = c.reasoning_outcomes_are_one.ensures.contains;
      minimise = c.reasoning_outcomes_are_one.ensures.minimise;
      verify = c.verify_outcomes_are_one.ensures;
      explain = c.explain_has_one_status.ensures;
    })
