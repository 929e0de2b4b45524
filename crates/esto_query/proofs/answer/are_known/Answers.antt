use Rattle.std.proofs.Common.{[]}
use Rattle.esto_query.specs.Trails.{with_trail}
use Rattle.esto_query.specs.Rows.{IsKnown}
use Rattle.esto_query.proofs.answer.are_known.Goals as goal
use Rattle.esto_term.proofs.ListLemmas.{each_more, each_seen}

pub loop-term-preserved : goal.loop-term-preserved
loop-term-preserved c = each_more (IsKnown [] (with_trail c.args.start.now c.args.trail.now)) _ _ _ c.loop-term-test.true c.term-item.is
    (c.is_known.ensures c.if-not-is_known.false) c.loop-term.invariant

pub returns : goal.returns
returns c _ = each_seen (IsKnown [] (with_trail c.args.start.now c.args.trail.now)) _ c.loop-term.term-index c.loop-term-test.false c.loop-term.invariant
