use Rattle.esto_semantics.specs.Maps.{IsFixedBy}
use Rattle.esto_query.proofs.SoundLemmas.{unsafe_at}
use Rattle.esto_query.proofs.make.first_unsafe.Goals as goal
use Rattle.esto_term.proofs.ListLemmas.{Contains-read, each_more, each_seen}

pub missing_variable-requires : goal.missing_variable-requires
missing_variable-requires c = c.requires _ (Contains-read _ _ _ c.loop-term-test.true c.term-item.is)

pub returns-in-Some : goal.returns-in-Some
returns-in-Some c =
    unsafe_at _ _ c.loop-term.term-index _ _ c.loop-term-test.true c.term-item.is c.in-Some.ensures.0 c.in-Some.ensures.1 c.loop-term.invariant

pub loop-term-preserved : goal.loop-term-preserved
loop-term-preserved c =
    each_more (IsFixedBy c.args.body.now) _ _ _ c.loop-term-test.true c.term-item.is c.in_default.ensures c.loop-term.invariant

pub returns : goal.returns
returns c = each_seen (IsFixedBy c.args.body.now) _ c.loop-term.term-index c.loop-term-test.false c.loop-term.invariant
