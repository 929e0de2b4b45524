use Rattle.std.proofs.Common.{◌-◌, [], ◌∷◌, ◌++◌, ap, ◌∙◌, arith}
use Rattle.std.proofs.lemmas.Result.{on_ok_weaker}
use Rattle.esto_columns.specs.CodedRows.{CodedRows}
use Rattle.esto_steps.specs.Paired.{Gained}
use Rattle.esto_steps.proofs.GainLemmas.{last_moved, same_between}
use Rattle.esto_steps.proofs.gained.Gained.move_last.Goals as goal

pub returns-clause-rows : goal.returns-clause-rows
returns-clause-rows c =
    let before : Gained = record { own = c.self.inside.own; pairs = c.self.inside.pairs } in
    let after : Gained = record { own = c.add.new.self; pairs = c.truncate.new.self } in
    on_ok_weaker c.note.result
    (λ same. same_between c.args.kept.now c.args.so_far.now c.args.rows.now c.args.self.now before after c.note.new.self c.self.view_is same
    (last_moved c.args.kept.now c.args.so_far.now c.args.rows.now before after (c.len-count.result - 1) c.item.result.now c.item.ensures
    (let some = c.if-count-eq0.false in let count = c.len-count.ensures in omega (arith, some, count))
    (ap (λ (it : CodedRows). it.rows) c.in_ok-add.ensures.ok
    ∙ ap (λ it. c.self.inside.own.rows ++ it ∷ []) (c.items.ensures ∙ c.in_ok-read_kept.ensures)) c.truncate.ensures))
    c.note.ensures
