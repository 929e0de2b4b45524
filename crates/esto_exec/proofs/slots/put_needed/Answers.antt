use Rattle.std.proofs.Common.{◌++◌, ap, ◌∙◌}
use Rattle.std.proofs.lemmas.Result.{on_ok_weaker}
use Rattle.esto_exec.specs.Turns.{input_slots, equation_slots, head_slots}
use Rattle.esto_exec.proofs.slots.put_needed.Goals as goal

pub returns : goal.returns
returns c = on_ok_weaker c.push_head_slots.result
    (λ grown. grown ∙ ap (λ them. them ++ head_slots c.args.arities.now c.args.head.now)
    (c.in_ok-push_input_slots.ensures ∙ ap (λ them. them ++ input_slots c.args.arities.now c.args.done.now 0 c.args.gets.now)
    (c.in_ok-push_equation_slots.ensures ∙ ap (λ them. them ++ equation_slots c.args.done.now c.args.equations.now) c.requires)))
    c.push_head_slots.ensures
