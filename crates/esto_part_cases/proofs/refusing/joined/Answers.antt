use Rattle.std.proofs.Common.{map, sym, subst}
use Rattle.esto_exec.specs.Runnable.{AreRunnable}
use Rattle.esto_part_cases.proofs.refusing.joined.Goals as goal
use Rattle.esto_part_cases.proofs.RefusingLemmas.{shape_of, runnable}

pub run_plan-requires : goal.run_plan-requires
run_plan-requires c =
    subst (λ fragments. AreRunnable (map shape_of fragments) c.in_ok-gets.gets) (sym c.items.ensures)
    (runnable c.args.count c.in_ok-fragments.fragments c.in_ok-gets.gets c.in_ok-fragments.ensures c.in_ok-gets.ensures)
