use Rattle.std.proofs.Common.{map, ap, ◌∙◌}
use Rattle.std.proofs.lemmas.List.{take_all}
use Rattle.esto_semantics.specs.Valuations.{map_of}
use Rattle.esto_query.specs.Trails.{with_trail}
use Rattle.esto_query.proofs.RowLemmas.{images_more}
use Rattle.esto_query.proofs.answer.image_of_row.Goals as goal

pub loop-term-init : goal.loop-term-init
loop-term-init c = c.in_ok-images.ensures

pub loop-term-preserved : goal.loop-term-preserved
loop-term-preserved c =
    images_more (map_of (with_trail c.args.start.now c.args.trail.now)) c.args.row.now c.loop-term.term-index c.term-item.result _ c.loop-term.images _
    c.loop-term-test.true c.term-item.is c.loop-term.invariant c.in_ok-image.ensures c.in_ok-push.ensures.ok

pub returns : goal.returns
returns c =
    c.loop-term.invariant ∙ ap (map (map_of (with_trail c.args.start.now c.args.trail.now)))
    (take_all c.loop-term.term-index c.args.row.now c.loop-term-test.false)
