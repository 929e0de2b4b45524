use Rattle.std.proofs.Common.{ap, ◌∙◌}
use Rattle.std.proofs.lemmas.List.{take_all}
use Rattle.esto_query.specs.Trails.{with_trail}
use Rattle.esto_query.proofs.TrailLemmas.{trail_more}
use Rattle.esto_query.proofs.matches.extended.Goals as goal

pub loop-binding-init : goal.loop-binding-init
loop-binding-init c = c.in_ok-valuation.ensures

pub loop-binding-preserved : goal.loop-binding-preserved
loop-binding-preserved c =
    trail_more c.args.start.now c.args.trail.now c.loop-binding.binding-index c.binding-item.result c.loop-binding.valuation _ _ c.loop-binding-test.true
    c.binding-item.is c.loop-binding.invariant c.in_ok-term.ensures c.in_ok-bind.ensures.ok

pub returns : goal.returns
returns c =
    c.loop-binding.invariant ∙ ap (with_trail c.args.start.now) (take_all c.loop-binding.binding-index c.args.trail.now c.loop-binding-test.false)
