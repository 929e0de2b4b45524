use Rattle.std.proofs.Common.{[], subst, sym}
use Rattle.esto_relmodel.proofs.OnceLemmas.{all_new, one_new, start}
use Rattle.esto_relmodel.specs.Once.{AreEachOnce}
use Rattle.esto_relmodel.proofs.facts.is_seen_twice.Goals as goal

pub rows-init : goal.rows-init
rows-init c = (c.requires, subst (AreEachOnce []) (sym c.requires) start)

pub rows-preserved : goal.rows-preserved
rows-preserved c =
    one_new c.args.rows.now c.rows.seen c.add.new.self c.rows.row-index c.row-item.result c.in_ok-add.field-0 c.rows-test.true c.row-item.is
    c.rows.invariant c.if-not-branch.false c.in_ok-add.ensures

pub returns : goal.returns
returns c _ = all_new c.args.rows.now c.rows.seen c.rows.row-index c.rows-test.false c.rows.invariant
