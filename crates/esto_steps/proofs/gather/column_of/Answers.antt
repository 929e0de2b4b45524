use Rattle.std.proofs.Common.{map, ap, sym, ◌∙◌}
use Rattle.std.proofs.lemmas.Result.{IfOk-weaker}
use Rattle.esto_steps.proofs.GatherLemmas.{code_of_each, left_codes, right_codes, no_codes}
use Rattle.esto_steps.specs.Paired.{code_in, code_or_zero}
use Rattle.esto_steps.proofs.gather.column_of.Goals as goal

pub returns-in-Code : goal.returns-in-Code
returns-in-Code c = IfOk-weaker c.repeated.result _ _
    (λ made is. code_of_each c.in-Code.code c.args.pairs.now made c.len.result is c.len.ensures
    ∙ ap (λ it. map (λ pair. code_or_zero (code_in c.args.so_far.now c.args.rows.now pair it)) c.args.pairs.now) (sym c.in-Code.is))
    c.repeated.ensures

pub returns-then-at-width : goal.returns-then-at-width
returns-then-at-width c = IfOk-weaker c.at_places.result _ _
    (λ made. left_codes c.args.so_far.now c.args.rows.now c.args.pairs.now c.args.source.now c.in-Cell.at c.arity-width.result c.in-Cell.is
    c.arity-width.ensures.value c.column.result.now c.args.lefts.now made c.if-at-width.true c.column.ensures c.requires.lefts)
    c.at_places.ensures

pub returns-then-at-width-2 : goal.returns-then-at-width-2
returns-then-at-width-2 c = IfOk-weaker c.at_places-then-at-width-2.result _ _
    (λ made. right_codes c.args.so_far.now c.args.rows.now c.args.pairs.now c.args.source.now c.in-Cell.at c.arity-width.result c.in-Cell.is
    c.arity-width.ensures.value c.column-then-at-width-2.result.now c.args.rights.now made c.if-at-width.false c.column-then-at-width-2.ensures
    c.requires.rights)
    c.at_places-then-at-width-2.ensures

pub returns-else-at-width-2 : goal.returns-else-at-width-2
returns-else-at-width-2 c = IfOk-weaker c.repeated-in-Cell.result _ _
    (λ made is. no_codes c.args.so_far.now c.args.rows.now c.args.pairs.now c.args.source.now c.in-Cell.at c.arity-width.result c.in-Cell.is
    c.arity-width.ensures.value c.arity.result made c.if-at-width.false c.if-at-width-2.false c.arity.ensures.value c.arity.ensures.fits
    (code_of_each 0 c.args.pairs.now made c.len-in-Cell.result is c.len-in-Cell.ensures))
    c.repeated-in-Cell.ensures
