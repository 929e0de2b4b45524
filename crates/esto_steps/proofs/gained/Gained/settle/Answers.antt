use Rattle.std.proofs.Common.{refl}
use Rattle.std.proofs.lemmas.Result.{on_ok_weaker}
use Rattle.esto_steps.specs.Paired.{Gained}
use Rattle.esto_steps.proofs.GainLemmas.{same_between}
use Rattle.esto_steps.proofs.gained.Gained.settle.Goals as goal

pub returns-clause-rows : goal.returns-clause-rows
returns-clause-rows c =
    let before : Gained = record { own = c.self.inside.own; pairs = c.self.inside.pairs } in
    on_ok_weaker c.move_stretch.result
    (same_between c.args.kept.now c.args.so_far.now c.args.rows.now c.args.self.now before c.move_stretch.new.self c.move_stretch.new.self c.self.view_is refl)
    c.move_stretch.ensures.rows
