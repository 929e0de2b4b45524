use Rattle.std.proofs.Common.{◌↔◌, ℕ, List, Contains, subst}
use Rattle.esto_steps.specs.Paired.{Gained, gained_rows}
use Rattle.esto_steps.proofs.GainLemmas.{more_and_own, own_and_more}
use Rattle.esto_steps.proofs.gained.into_rows.Goals as goal

pub returns-then-len : goal.returns-then-len
returns-then-len c =
    let gained : Gained = record { own = c.gained.inside.own; pairs = c.gained.inside.pairs } in
    subst
    (λ them. (row : List ℕ) → Contains c.add_all.new.self.rows row
    ↔ Contains (gained_rows c.args.kept.now c.args.so_far.now c.args.rows.now them) row) c.gained.view_is
    (more_and_own c.args.kept.now c.args.so_far.now c.args.rows.now gained c.in_ok-more.more c.add_all.new.self c.in_ok-more.ensures c.in_ok-add_all.ensures)

pub returns : goal.returns
returns c =
    let gained : Gained = record { own = c.gained.inside.own; pairs = c.gained.inside.pairs } in
    subst
    (λ them. (row : List ℕ) → Contains c.add_all-2.new.self.rows row
    ↔ Contains (gained_rows c.args.kept.now c.args.so_far.now c.args.rows.now them) row) c.gained.view_is
    (own_and_more c.args.kept.now c.args.so_far.now c.args.rows.now gained c.in_ok-more.more c.add_all-2.new.self c.in_ok-more.ensures c.in_ok-add_all-2.ensures)
