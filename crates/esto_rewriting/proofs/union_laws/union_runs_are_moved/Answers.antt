use Rattle.esto_rewriting.proofs.RunMovedLemmas.{runs_moved}
use Rattle.esto_rewriting.proofs.union_laws.union_runs_are_moved.Goals as goal

pub returns : goal.returns
returns c =
    runs_moved c.plans_and_lists_are_moved.ensures.plan c.plans_and_lists_are_moved.ensures.clash c.fragment_files_are_one.ensures.rows
