use Rattle.std.proofs.Common.{sym, ◌∙◌}
use Rattle.esto_query.proofs.TrailLemmas.{given_found, given_passed, given_start}
use Rattle.esto_query.proofs.trail.value.Goals as goal

pub returns-then-binding-variable : goal.returns-then-binding-variable
returns-then-binding-variable c =
    sym (given_found c.args.start.now _ _ _ _ c.loop-at-test.true c.loop-at.auto.at c.index-trail-at.is c.if-binding-variable.true) ∙ c.loop-at.invariant

pub loop-at-preserved : goal.loop-at-preserved
loop-at-preserved c =
    given_passed c.args.start.now _ _ _ _ c.loop-at-test.true c.loop-at.auto.at c.index-trail-at.is c.if-binding-variable.false ∙ c.loop-at.invariant

pub returns : goal.returns
returns c = c.value.ensures ∙ sym (given_start c.args.start.now c.args.trail.now c.args.variable _ c.loop-at-test.false) ∙ c.loop-at.invariant
