use Rattle.std.proofs.Common.{refl}
use Rattle.esto_known.proofs.IndexLemmas.{groups_turn, groups_all}
use Rattle.esto_known.proofs.keys.Keys.add_all.Goals as goal

pub groups-preserved : goal.groups-preserved
groups-preserved c =
    groups_turn c.args.groups.now c.args.groups.now c.groups.group-index c.group-item.result c.groups.self _ refl c.groups-test.true c.group-item.is
    c.groups.invariant c.in_ok-add.ensures

pub returns : goal.returns
returns c = groups_all c.args.groups.now c.args.groups.now c.groups.group-index c.groups.self refl c.groups-test.false c.groups.invariant
