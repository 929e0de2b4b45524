use Rattle.std.proofs.Common.{map, sym, subst}
use Rattle.esto_columns.specs.declared.stored.StoredRows.{StoredRows}
use Rattle.esto_coded.specs.Parted.{ArePartBelow}
use Rattle.esto_coded.proofs.PartLemmas.{below_none, below_more, below_all}
use Rattle.esto_coded.proofs.parted.part_of.Goals as goal

pub relations-init : goal.relations-init
relations-init c =
    let rows = map (λ (stored : StoredRows). stored.rows) c.args.relations.now in
    subst (ArePartBelow c.args.codes.now rows c.args.atoms.now c.args.set.now 0) (sym c.new-facts.ensures)
    (below_none c.args.codes.now rows c.args.atoms.now c.args.set.now)

pub relations-preserved : goal.relations-preserved
relations-preserved c = below_more c.args.codes.now (map (λ (stored : StoredRows). stored.rows) c.args.relations.now) c.args.atoms.now c.args.set.now
    c.relations.number c.relations.facts c.put_asked.new.facts c.relations.invariant c.in_ok-put_asked.ensures

pub returns : goal.returns
returns c = below_all c.args.codes.now c.args.relations.now c.args.atoms.now c.args.set.now c.relations.number c.relations.facts
    c.relations-test.false c.relations.invariant
