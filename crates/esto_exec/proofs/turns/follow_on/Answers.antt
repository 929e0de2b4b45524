use Rattle.std.proofs.Common.{ap, ◌∙◌}
use Rattle.std.proofs.lemmas.Result.{on_ok_weaker}
use Rattle.esto_exec.specs.Turns.{kept_slots}
use Rattle.esto_exec.proofs.turns.follow_on.Goals as goal

pub returns-clause-rows : goal.returns-clause-rows
returns-clause-rows g c = on_ok_weaker c.follow.result
    (λ kept. (kept.0 ∙ ap (λ needed. kept_slots needed c.args.so_far.now.places) c.in_ok-needed.ensures, kept.1))
    c.follow.ensures
