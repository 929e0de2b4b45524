use Rattle.std.proofs.Common.{[], ◌<◌, ◌≤◌, ◌-◌, get_or, slice_get, sym, subst, ap, ◌∙◌}
use Rattle.esto_steps.specs.Paired.{code_in}
use Rattle.esto_steps.proofs.PairLemmas.{cell_before, cell_after}
use Rattle.esto_steps.proofs.codes.code_in.Goals as goal

pub returns-in-Code : goal.returns-in-Code
returns-in-Code c = sym (ap (code_in c.args.so_far.now c.args.rows.now c.args.pair) c.in-Code.is)

pub returns-then-at-width : goal.returns-then-at-width
returns-then-at-width c =
    c.held.ensures
    ∙ sym (cell_before c.args.so_far.now.arity (get_or c.args.so_far.now.rows c.args.pair.left []) (get_or c.args.rows.now.rows c.args.pair.right [])
    c.in-Cell.at (subst (λ it. c.in-Cell.at < it) c.arity-width.ensures.value c.if-at-width.true))
    ∙ sym (ap (code_in c.args.so_far.now c.args.rows.now c.args.pair) c.in-Cell.is)

pub returns-else-at-width : goal.returns-else-at-width
returns-else-at-width c =
    c.held-else-at-width.ensures
    ∙ ap (λ width. slice_get (get_or c.args.rows.now.rows c.args.pair.right []) (c.in-Cell.at - width)) c.arity-width.ensures.value
    ∙ sym (cell_after c.args.so_far.now.arity (get_or c.args.so_far.now.rows c.args.pair.left []) (get_or c.args.rows.now.rows c.args.pair.right [])
    c.in-Cell.at (subst (λ it. it ≤ c.in-Cell.at) c.arity-width.ensures.value c.if-at-width.false))
    ∙ sym (ap (code_in c.args.so_far.now c.args.rows.now c.args.pair) c.in-Cell.is)
