use Rattle.std.proofs.Common.{◌≤◌, arith}
use Rattle.esto_rewriting.proofs.PickingLemmas.{above_choice, empty_choice, none_have, numbered_choice, unnumbered}
use Rattle.esto_rewriting.proofs.picking.judge_choice.Goals as goal

pub returns-in_default-clause-ok : goal.returns-in_default-clause-ok
returns-in_default-clause-ok c = none_have c.args.members.now c.args.number c.in_default.ensures

pub returns-then-least-eq0-clause-refusal : goal.returns-then-least-eq0-clause-refusal
returns-then-least-eq0-clause-refusal c = empty_choice c.args.members.now c.args.number c.in-Some.least c.in-Some.ensures c.if-least-eq0.true

pub returns-in_default-number-clause-ok : goal.returns-in_default-number-clause-ok
returns-in_default-number-clause-ok c =
    unnumbered c.args.members.now c.args.number c.in-Some.least c.in-Some.ensures c.if-least-eq0.false c.in_default-number.is

pub returns-then-number-least-clause-refusal : goal.returns-then-number-least-clause-refusal
returns-then-number-least-clause-refusal c =
    above_choice c.args.members.now c.args.number c.in-Some.least c.in-Some.ensures c.in-Some-number.number c.if-least-eq0.false c.in-Some-number.is
    c.if-number-least.true

pub returns-clause-ok : goal.returns-clause-ok
returns-clause-ok c =
    let le : c.in-Some-number.number ≤ c.in-Some.least = omega (arith, c.if-number-least.false) in
    numbered_choice c.args.members.now c.args.number c.in-Some.least c.in-Some.ensures c.in-Some-number.number c.if-least-eq0.false c.in-Some-number.is le
