use Rattle.std.proofs.Common.{◌↔◌, ℕ, List, Contains, subst}
use Rattle.esto_steps.specs.Joined.{IsJoin, IsKept}
use Rattle.esto_exec.proofs.turns.join_slots.Goals as goal

pub returns : goal.returns
returns g c = subst (λ sources. (row : List ℕ) → Contains c.join_rows.new.so_far.rows row
    ↔ IsKept sources (IsJoin c.args.get.now c.args.so_far.now.rows (g.F.Fragment.rows c.args.fragment.now)) row)
    c.in_ok-sources.ensures
    c.in_ok-key.ensures
