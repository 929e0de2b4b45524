use Rattle.std.proofs.Common.{[], map, subst, sym, ap, ◌∙◌}
use Rattle.esto_relmodel.proofs.OnceLemmas.{all_rows, more_rows, start}
use Rattle.esto_relmodel.specs.Once.{AreEachOnce}
use Rattle.esto_relmodel.specs.RowFacts.{row_fact}
use Rattle.esto_relmodel.proofs.facts.facts_seen.Goals as goal

pub rows-init : goal.rows-init
rows-init c = (
  c.new-facts.ensures ∙ ap (map (row_fact c.args.relation)) (sym c.requires),
  subst (AreEachOnce []) (sym c.requires) start,
)

pub rows-preserved : goal.rows-preserved
rows-preserved c = (
  c.in_ok-put_row.ensures.facts,
  more_rows c.args.rows.now c.rows.seen c.put_row.new.seen c.rows.row-index _ c.rows-test.true c.row-item.is c.rows.invariant.1
      c.in_ok-put_row.ensures.once,
)

pub returns : goal.returns
returns c = (
  c.rows.seen,
  all_rows c.args.rows.now c.rows.seen c.rows.row-index c.rows-test.false c.rows.invariant.1,
  c.rows.invariant.0,
)
