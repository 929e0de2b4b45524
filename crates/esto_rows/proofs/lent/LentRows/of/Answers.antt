use Rattle.esto_rows.proofs.LentLemmas.{rows_coded_by}
use Rattle.esto_rows.proofs.lent.LentRows.of.Goals as goal

pub returns : goal.returns
returns c =
    rows_coded_by c.args.codes.now c.arity.result c.args.rows.now.arity c.len.result c.args.rows.now.rows _ c.arity.ensures.value c.arity.ensures.fits
    c.len.ensures c.in_ok-texts.ensures
