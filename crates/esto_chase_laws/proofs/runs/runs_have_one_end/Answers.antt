use Rattle.esto_chase_laws.proofs.NextLemmas.{end_stops, one_clash, clashed_not_finished}
use Rattle.esto_chase_laws.proofs.RunLemmas.{one_end, same_moves, same_merges}
use Rattle.esto_chase_laws.proofs.runs.runs_have_one_end.Goals as goal

pub returns-clause-state : goal.returns-clause-state
returns-clause-state c rules start are_rules trace other end other_end run other_run ends also_ends =
    one_end rules are_rules start trace other end other_end run other_run (end_stops rules are_rules end ends) (end_stops rules are_rules other_end also_ends)

pub returns-clause-moves : goal.returns-clause-moves
returns-clause-moves c rules start are_rules trace other end other_end run other_run ends also_ends =
    same_moves rules are_rules start trace other end other_end run other_run
    (end_stops rules are_rules end ends) (end_stops rules are_rules other_end also_ends)

pub returns-clause-merges : goal.returns-clause-merges
returns-clause-merges c rules start are_rules trace other end other_end run other_run ends also_ends =
    same_merges rules are_rules start trace other end other_end run other_run
    (end_stops rules are_rules end ends) (end_stops rules are_rules other_end also_ends)

pub returns-clause-clash : goal.returns-clause-clash
returns-clause-clash c = one_clash

pub returns-clause-apart : goal.returns-clause-apart
returns-clause-apart c = clashed_not_finished
