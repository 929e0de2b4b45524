use Rattle.esto_known.proofs.TurnLemmas.{turns_none, turns_more, turns_all}
use Rattle.esto_known.proofs.turns.listed.Goals as goal

pub entries-init : goal.entries-init
entries-init c = turns_none c.new-turns.result.items

pub entries-preserved : goal.entries-preserved
entries-preserved c = turns_more c.entries.turns.items c.push.new.items.items (record { size = c.size-size.result; place = c.entries.place })
    c.in_ok-push.ensures c.entries.invariant

pub returns : goal.returns
returns c = turns_all c.entries.place _ c.entries.turns.items c.entries-test.false c.entries.invariant
