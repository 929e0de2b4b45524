use Rattle.esto_rewriting.proofs.RunOneLemmas.{runs_one}
use Rattle.esto_rewriting.proofs.union_laws.union_runs_are_one.Goals as goal

pub returns : goal.returns
returns c =
    runs_one (record {
      members = c.members_are_one.ensures;
      choice = c.plans_and_lists_are_one.ensures.choice;
      used = c.used_by_all_are_one.ensures;
      fragments = c.fragment_files_are_one.ensures.fragments;
      content = c.fragment_files_are_one.ensures.rows;
      rising = c.rising_rows_are_one.ensures;
    })
